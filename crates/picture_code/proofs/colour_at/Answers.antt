use mathlib.Core.Path.{sym}
use Rattle.record.proofs.Lists.{nothing_past}
use Rattle.picture_code.proofs.colour_at.Goals as goal

pub returns-else-p-colours : goal.returns-else-p-colours
returns-else-p-colours c = sym (nothing_past c.args.colours.now _ c.if-p-colours.false)
