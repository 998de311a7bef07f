use lib.Dec.{eqb}
use Rattle.script_verdict.proofs.is_answer.Goals as goal

pub returns : goal.returns
returns g c = λ t. eqb (c.number_of.ensures t) (c.number.ensures t)
