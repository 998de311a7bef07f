use mathlib.Core.Path.{ap, ◌∙◌}
use Rattle.answers.specs.Answers.{strip_given}
use Rattle.s1d.proofs.s1d_wear_strip.Goals as goal

pub returns : goal.returns
returns c = record { value = c.strip_given.ensures ∙ ap strip_given c.strip_in-made.ensures.result_value; list_after = c.strip_in-made.ensures.list_after; words_after = c.strip_in-made.ensures.words_after }
