use mathlib.Core.Path.{◌∙◌}
use native.Mathlib.Omega.{arith}
use Rattle.serial.proofs.Half.{half_end}
use Rattle.serial_state.proofs.joined_half.Goals as goal

pub returns : goal.returns
returns c = let a = c.args in c.joined.ensures ∙ half_end a.half a.block.now a.held (omega arith)
