use Rattle.command_share.proofs.Run.{meet_is}
use Rattle.command_share.proofs.is_met.Goals as goal

pub returns : goal.returns
returns c = let a = c.args in meet_is a.a a.n a.b a.k
