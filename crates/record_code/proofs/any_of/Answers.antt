use mathlib.Core.Path.{refl, sym, ◌∙◌}
use native.Mathlib.Omega.{arith}
use Rattle.refusal.proofs.Tables.{found_step, found_end}
use Rattle.record_code.proofs.any_of.Goals as goal

pub loop-found-preserved : goal.loop-found-preserved
loop-found-preserved g c =
    let l = c.loop-found in l.invariant ∙ found_step (λ t. 0) _ l.found-index _ c.loop-found-item.is c.loop-found-test.true l.any

pub returns : goal.returns
returns g c = let l = c.loop-found in sym (l.invariant ∙ found_end (λ t. 0) _ l.found-index l.any (omega arith))
