use Prim.Native.Nat.{◌+◌, ◌*◌}
use native.Mathlib.Numerals.{add-one}
use native.Mathlib.Omega.{arith}
use lib.ListN.{length-set}
use Rattle.record.proofs.Lists.{filled_more}
use Rattle.pixel.specs.Pixel.{get_pixel}
use Rattle.blit_pattern.proofs.Rows.{row_read}
use Rattle.blit_pattern.proofs.read_row.Goals as goal

pub loop-u-preserved : goal.loop-u-preserved
loop-u-preserved c = let l = c.loop-u in
    let a = c.args in
    (simp length-set l.invariant.0, rw add-one (filled_more (λ k. get_pixel a.bytes a.memory.now (a.at + k * a.bytes)) 0 _ l.u l.row (omega arith) l.invariant.1 c.get_pixel.ensures))

pub returns : goal.returns
returns c = let l = c.loop-u in
    let a = c.args in
    row_read a.bytes a.memory.now a.at l.row l.invariant.0 (λ k h. l.invariant.1 k (omega arith))
