use mathlib.Core.Path.{refl, sym, ◌∙◌}
use native.Mathlib.Omega.{arith}
use Rattle.record.proofs.Zero.{zero_step, zero_end}
use Rattle.record_code.proofs.all_zero.Goals as goal

pub loop-x-init : goal.loop-x-init
loop-x-init c = refl

pub loop-x-preserved : goal.loop-x-preserved
loop-x-preserved c = let l = c.loop-x in l.invariant ∙ zero_step _ l.x-index l.zero (omega arith)

pub returns : goal.returns
returns c = let l = c.loop-x in sym (l.invariant ∙ zero_end _ l.x-index l.zero (omega arith))
