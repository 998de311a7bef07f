use Rattle.script.proofs.Compared.{same_is}
use Rattle.script_verdict.proofs.is_same.Goals as goal

pub returns : goal.returns
returns c = same_is _ _ _ c.same.ensures.0 c.same.ensures.1
