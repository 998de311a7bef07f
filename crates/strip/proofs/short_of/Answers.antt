use Rattle.strip.proofs.Shorts.{no_number, is_short}
use Rattle.std.specs.Prelude.{is_some}
use mathlib.Core.Path.{ap, ◌∙◌}
use Rattle.strip.proofs.short_of.Goals as goal

pub returns-in_err-a : goal.returns-in_err-a
returns-in_err-a c = c.from_residual.ensures ∙ no_number _ (ap is_some c.in_err-a.was)

pub returns : goal.returns
returns c = c.ok.ensures.value ∙ is_short _ _ _ c.in_ok-a.was c.try_from.ensures
