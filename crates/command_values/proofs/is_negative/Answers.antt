use Rattle.command.proofs.Values.{negative_is}
use Rattle.command_values.proofs.is_negative.Goals as goal

pub returns : goal.returns
returns c = rw negative_is (simp (c.destination_of-destination.ensures.0, c.source_of-source.ensures.0))
