use mathlib.Core.Path.{ap, ◌∙◌}
use Rattle.answers.specs.Answers.{hour_given}
use Rattle.s1d.proofs.s1d_hour_at.Goals as goal

pub returns : goal.returns
returns c = c.hour_given.ensures ∙ ap hour_given c.hour_in-hour.ensures.result_value
