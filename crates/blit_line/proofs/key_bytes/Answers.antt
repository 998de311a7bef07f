use mathlib.Core.Path.{refl}
use native.Mathlib.Numerals.{add-one}
use native.Mathlib.Omega.{arith}
use lib.ListN.{get_or}
use Rattle.blit.proofs.Worker.{straight_none}
use Rattle.blit_line.proofs.Keys.{keyed_more}
use Rattle.blit_line.proofs.key_bytes.Goals as goal

pub loop-i-init : goal.loop-i-init
loop-i-init c = straight_none _ _ _ _

pub loop-i-preserved : goal.loop-i-preserved
loop-i-preserved c = let l = c.loop-i in
    let a = c.args in
    rw add-one
    (keyed_more a.key l.i a.source.now a.line.now l.line (get_or a.source.now l.i 0) (get_or l.line l.i 0) _ refl refl c.keyed.ensures
    (c.type_inv.source l.i).fits (omega arith) l.invariant)
