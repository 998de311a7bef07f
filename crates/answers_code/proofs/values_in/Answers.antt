use Rattle.answers.proofs.Answers.{values_are}
use Rattle.answers_code.proofs.values_in.Goals as goal

pub returns : goal.returns
returns c = values_are _ _ c.six_values.ensures
