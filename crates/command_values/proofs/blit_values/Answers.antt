use Rattle.command.proofs.Values.{values_are}
use Rattle.command_values.proofs.blit_values.Goals as goal

pub returns : goal.returns
returns c = rw values_are (cc)
