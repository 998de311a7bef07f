use Rattle.command_code.proofs.Rows.{placed_is}
use Rattle.command_code.proofs.is_placed.Goals as goal

pub returns : goal.returns
returns c = placed_is _ _ _ _ _ c.surface_of-on.ensures c.is_inside-destination.ensures c.is_inside-source.ensures
