-- The bytes before x and those from x on are all of them.
use mathlib.Core.Path.{◌≡◌}
use mathlib.Core.Bool.{◌&&◌}
use lib.ListN.{drop}
use Rattle.record.specs.Bytes.{all_zero}
use Rattle.record_code.proofs.all_zero.Given as goal

abbrev pub invariant-loop-x : goal.invariant-loop-x
invariant-loop-x l = all_zero l.b ≡ l.zero && all_zero (drop l.x-index l.b)
