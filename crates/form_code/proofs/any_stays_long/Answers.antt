use native.Mathlib.Omega.{arith}
use Rattle.form.proofs.Loops.{asking_start, asking_turn, asking_end}
use Rattle.form_code.proofs.any_stays_long.Goals as goal

pub loop-i-init : goal.loop-i-init
loop-i-init c = asking_start _ _

pub loop-i-preserved : goal.loop-i-preserved
loop-i-preserved c = let l = c.loop-i in asking_turn _ _ _ l.any l.i l.invariant (omega arith) c.loop-i-test.true _ c.all_zero-zero.ensures

pub returns : goal.returns
returns c = let l = c.loop-i in asking_end _ _ _ l.any l.i l.invariant c.loop-i-test.false
