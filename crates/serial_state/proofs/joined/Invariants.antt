-- The loop: the first i bytes stand over the zeros.
use mathlib.Core.Path.{◌≡◌}
use mathlib.Core.List.{◌++◌}
use lib.ListN.{take, replicate}
use lib.Seq.{paste}
use Rattle.serial_state.proofs.joined.Given as goal

abbrev pub invariant-loop-i : goal.invariant-loop-i
invariant-loop-i g l = l.next ≡ paste (replicate g.row.N 0) 0 (take l.held l.half ++ l.block) l.i
