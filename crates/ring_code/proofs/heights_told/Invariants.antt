use Rattle.ring.proofs.Heights.{HeightsTo}
use Rattle.ring_code.specs.View.{ring_of}
use Rattle.ring_code.proofs.heights_told.Given as goal

abbrev pub invariant-loop-i : goal.invariant-loop-i
invariant-loop-i l = HeightsTo (ring_of l.v) l.hours l.heights l.i
