use mathlib.Core.Path.{refl}
use native.Mathlib.Numerals.{add-one}
use lib.ListN.{length-set}
use Rattle.blit.proofs.Copy.{copied_none, copied_more}
use Rattle.blit_line.proofs.copy_bytes.Goals as goal

pub loop-i-init : goal.loop-i-init
loop-i-init c = (refl, copied_none _ _ _)

pub loop-i-preserved : goal.loop-i-preserved
loop-i-preserved c = let l = c.loop-i in
    let a = c.args in (
      simp length-set l.invariant.0,
      rw add-one (copied_more a.from.now a.at l.i _ l.to l.invariant.1),
    )
