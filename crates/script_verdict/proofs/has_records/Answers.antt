use Prim.Native.Nat.{◌*◌}
use lib.Dec.{eqb}
use Rattle.script_verdict.proofs.has_records.Goals as goal

pub returns : goal.returns
returns g c = λ t. eqb (c.size_of.ensures t) (8 * c.number.ensures t)
