-- The loop: what is left of the records, applied to the memory so far, is all of them applied; and it is not refused.
use mathlib.Core.Path.{◌≡◌}
use Prim.Native.Nat.{◌-◌, ◌≤◌}
use lib.ListN.{length}
use Rattle.record.specs.Record.{records_from}
use Rattle.screen.specs.Screen.{memory_size}
use Rattle.chip.specs.Play.{run, applied}
use Rattle.chip_code.proofs.perform_all.Given as goal

abbrev pub invariant-loop-i : goal.invariant-loop-i
invariant-loop-i l = (l.i ≤ l.count) × (applied l.initial.chip (records_from l.stream 0 l.count) l.initial.memory ≡ applied l.chip (records_from l.stream l.i (l.count - l.i)) l.memory) × ((run memory_size l.chip l.i (records_from l.stream l.i (l.count - l.i))).number ≡ 0) × (length l.memory ≡ length l.initial.memory)

abbrev pub decreases-loop-i : goal.decreases-loop-i
decreases-loop-i l = l.count - l.i
