use Rattle.std.proofs.Common.{◌&&◌, ◌||◌, eqb, leb, ap}
use Rattle.ring.specs.Kept.{takes}
use Rattle.ring_code.proofs.takes.Goals as goal

pub returns : goal.returns
unfolding takes
returns c = let a = c.args in ap (λ x. leb a.height 100 && (eqb a.any 0 || (leb 1 x && leb x 512))) c.steps_to-steps.ensures
