use Rattle.sample.proofs.Texts.{sample_taken, nothing_taken, bad_left_out}
use Rattle.std.proofs.Common.{Ok}
use mathlib.Core.Path.{ap, ◌∙◌}
use Rattle.strip_take.proofs.take_line.Goals as goal

pub returns-in-Ok-Some : goal.returns-in-Ok-Some
returns-in-Ok-Some g c = c.take.ensures ∙ sample_taken _ _ _ c.line_means.ensures _ (c.in-Ok-Some.is ∙ ap Ok c.in-Ok-Some.field-0-is)

pub returns-in-Ok-None : goal.returns-in-Ok-None
returns-in-Ok-None g c = nothing_taken _ _ _ c.line_means.ensures (c.in-Ok-None.is ∙ ap Ok c.in-Ok-None.field-0-is)

pub returns-in-Err : goal.returns-in-Err
returns-in-Err g c = bad_left_out _ _ _ c.line_means.ensures _ c.in-Err.is
