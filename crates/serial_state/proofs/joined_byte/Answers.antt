use native.Mathlib.Omega.{arith}
use Rattle.serial.proofs.Half.{byte_held, byte_behind}
use Rattle.serial_state.proofs.joined_byte.Goals as goal

pub returns-then-i-held : goal.returns-then-i-held
returns-then-i-held c = byte_held c.args.half c.args.block.now c.args.held (omega arith) c.args.i c.if-i-held.true

pub returns : goal.returns
returns c = byte_behind c.args.half c.args.block.now c.args.held (omega arith) c.args.i c.if-i-held.false
