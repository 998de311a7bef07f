use Rattle.sample.proofs.Meanings.{line_nothing, line_bad, line_sample}
use Rattle.sample.specs.Line.{behind}
use Rattle.sample.specs.declared.Stop.TheVariants as Stop
use Rattle.text.specs.Numbers.{number_of}
use mathlib.Core.List.{[]}
use borrow.Author.Tests.{eqb-true, eqb-false}
use mathlib.Core.Path.{sym, ap, ◌∙◌}
use Rattle.sample_code.proofs.line_means.Goals as goal

pub returns-then-is_empty : goal.returns-then-is_empty
returns-then-is_empty c = line_nothing _ _ [] [] c.behind_run-a.ensures (eqb-true _ 0 (sym c.is_empty.ensures ∙ c.if-is_empty.true))

pub returns-then-not-is_empty : goal.returns-then-not-is_empty
returns-then-not-is_empty c = line_bad _ _ _ _ c.behind_run-a.ensures (c.behind_run-b.ensures ∙ ap (behind Stop.Ink) c.behind_run.ensures) (c.behind_run-c.ensures ∙ ap (behind Stop.Ink) c.behind_run-2.ensures) (eqb-false _ 0 (sym c.is_empty.ensures ∙ c.if-is_empty.false)) (eqb-false _ 0 (sym c.is_empty-2.ensures ∙ c.if-not-is_empty.true))

pub returns : goal.returns
returns c = c.sample_with.ensures ∙ line_sample _ _ _ _ c.behind_run-a.ensures (c.behind_run-b.ensures ∙ ap (behind Stop.Ink) c.behind_run.ensures) (c.behind_run-c.ensures ∙ ap (behind Stop.Ink) c.behind_run-2.ensures) (eqb-false _ 0 (sym c.is_empty.ensures ∙ c.if-is_empty.false)) _ _ (c.number_of-sequence.ensures ∙ ap number_of c.before_stop.ensures) (c.number_of-height.ensures ∙ ap number_of c.before_stop-2.ensures) (eqb-true _ 0 (sym c.is_empty-2.ensures ∙ c.if-not-is_empty.false))
