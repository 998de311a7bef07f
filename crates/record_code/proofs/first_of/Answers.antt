use mathlib.Core.Path.{refl, sym, ◌∙◌}
use native.Mathlib.Omega.{arith}
use Rattle.refusal.specs.Number.{number_by}
use Rattle.refusal.proofs.Tables.{none_found, row_step, row_stop, rows_over}
use Rattle.record_code.proofs.first_of.Goals as goal

pub returns-then-not-any_of : goal.returns-then-not-any_of
unfolding number_by
returns-then-not-any_of g c = sym (none_found _ _ (sym c.any_of.ensures ∙ c.if-not-any_of.true))

pub returns-then-found : goal.returns-then-found
unfolding number_by
returns-then-found g c = let l = c.loop-refusal in sym (l.invariant ∙ row_stop _ _ l.refusal-index _ c.loop-refusal-item.is c.loop-refusal-test.true c.if-found.true)

pub loop-refusal-preserved : goal.loop-refusal-preserved
loop-refusal-preserved g c = let l = c.loop-refusal in l.invariant ∙ row_step _ _ l.refusal-index _ c.loop-refusal-item.is c.loop-refusal-test.true c.if-found.false

pub returns : goal.returns
unfolding number_by
returns g c = let l = c.loop-refusal in sym (l.invariant ∙ rows_over _ _ l.refusal-index (omega arith))
