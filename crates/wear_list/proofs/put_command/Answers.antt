use Rattle.wear.proofs.Commands.{command_stored}
use borrow.Author.Rules.{rules}
use Rattle.wear_list.proofs.put_command.Goals as goal

pub returns : goal.returns
returns c = let a = c.args in command_stored a.list.now a.at a.c (record { operation = search rules; surface = search rules; raster = search rules; x = search rules; y = search rules; width = search rules; height = search rules; sx = search rules; sy = search rules; colour = search rules }) _ _ _ _ c.head-first.ensures c.pair-corner.ensures c.pair-size.ensures c.pair-source.ensures c.put_four.ensures c.put_four-2.ensures
