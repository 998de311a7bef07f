-- A ring that is lent to be read.
use Rattle.ring.specs.declared.Ring.{Ring}
use Rattle.ring_code.specs.declared.View.{View}

abbrev pub ring_of : View → Ring
ring_of v = record { any = v.any; newest = v.newest; numbers = v.numbers.now; heights = v.heights.now }
