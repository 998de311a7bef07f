-- The loop: the run of what is left of the stream, from the chip so far, is the whole run.
use mathlib.Core.Path.{◌≡◌}
use Prim.Native.Nat.{◌-◌, ◌≤◌}
use Rattle.record.specs.Record.{records_from, records_of}
use Rattle.chip.specs.Play.{run}
use Rattle.chip_admit.proofs.check.Given as goal

abbrev pub invariant-loop-i : goal.invariant-loop-i
invariant-loop-i l = (l.i ≤ l.count) × (run l.memory l.initial.chip 0 (records_of l.stream) ≡ run l.memory l.chip l.i (records_from l.stream l.i (l.count - l.i)))

abbrev pub decreases-loop-i : goal.decreases-loop-i
decreases-loop-i l = l.count - l.i
