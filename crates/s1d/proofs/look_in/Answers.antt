use Rattle.answers.proofs.Answers.{looking_with}
use Rattle.s1d.proofs.look_in.Goals as goal

pub returns : goal.returns
returns c = looking_with _ _ _ _ _ _ _ _ c.look_for.ensures c.values_given-v.ensures
