use mathlib.Core.Path.{◌∙◌}
use mathlib.Core.List.{◌++◌}
use Rattle.std.proofs.lemmas.List.{append-nil}
use lib.ListN.{take}
use Rattle.serial_state.proofs.joined_record.Goals as goal

pub returns : goal.returns
returns c = let a = c.args in c.joined.ensures ∙ append-nil (take 8 (take a.held a.half ++ a.block.now))
