use Prim.Native.Nat.{◌+◌, ◌-◌, ◌*◌}
use native.Mathlib.Omega.{arith}
use native.Mathlib.Numerals.{add-one}
use Rattle.blit_pattern.proofs.Parts.{tiles_none, tiles_more}
use Rattle.blit_pattern.proofs.tile_lines.Goals as goal

pub loop-k-init : goal.loop-k-init
loop-k-init c = tiles_none _ _ _ _ _ _

pub loop-k-preserved : goal.loop-k-preserved
loop-k-preserved c = let l = c.loop-k in
    let a = c.args in
    rw add-one (tiles_more a.bytes a.rows a.x a.y a.width l.k (l.k * 2048 + 2048 - l.k * 2048) a.lines.now l.lines _ l.invariant (omega arith) c.tile_line.ensures)
