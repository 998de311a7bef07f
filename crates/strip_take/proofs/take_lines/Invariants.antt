use Rattle.ring.specs.Kept.{empty_ring, ring_after}
use Rattle.sample.specs.Line.{lines_of, samples_of}
use mathlib.Core.Path.{◌≡◌}
use Prim.Native.Nat.{◌+◌, ◌-◌, ◌≤◌}
use lib.ListN.{length, drop}
use Rattle.strip_take.proofs.take_lines.Given as goal

abbrev pub invariant-loop-at : goal.invariant-loop-at
invariant-loop-at g l = (l.at ≤ length l.text + 1) × ((l.number ≤ l.at) × (ring_after l.ring (samples_of (lines_of (drop l.at l.text))) ≡ ring_after empty_ring (samples_of (lines_of l.text))))

abbrev pub decreases-loop-at : goal.decreases-loop-at
decreases-loop-at g l = length l.text + 1 - l.at
