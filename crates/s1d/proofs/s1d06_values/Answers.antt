use mathlib.Core.Path.{ap, ◌∙◌}
use Rattle.answers.specs.Answers.{values_in}
use Rattle.s1d.proofs.s1d06_values.Goals as goal

pub values_in-requires : goal.values_in-requires
values_in-requires c = c.values_from.ensures.narrow

pub returns : goal.returns
returns c = c.values_in.ensures ∙ ap values_in c.values_from.ensures.value
