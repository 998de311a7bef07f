use mathlib.Core.List.{[]}
use Prim.Native.Nat.{◌+◌, ◌*◌}
use native.Mathlib.Numerals.{add-one}
use native.Mathlib.Omega.{arith}
use lib.ListN.{length-set}
use Rattle.record.proofs.Lists.{filled_more}
use Rattle.blit_pattern.specs.Pattern.{row_at}
use Rattle.blit_pattern.proofs.Rows.{rows_read}
use Rattle.blit_pattern.proofs.read_pattern.Goals as goal

pub loop-v-preserved : goal.loop-v-preserved
loop-v-preserved c = let l = c.loop-v in
    let a = c.args in
    (simp length-set l.invariant.0, rw add-one (filled_more (λ k. row_at a.bytes a.memory.now (a.at + k * (8 * a.bytes))) [] _ l.v l.rows (omega arith) l.invariant.1 c.read_row.ensures))

pub returns : goal.returns
returns c = let l = c.loop-v in
    let a = c.args in
    rows_read a.bytes a.memory.now a.at l.rows l.invariant.0 (λ k h. l.invariant.1 k (omega arith))
