use mathlib.Core.Path.{sym}
use Rattle.pixel.proofs.Stands.{bit_is}
use Rattle.pixel_code.proofs.pixel_bit.Goals as goal

pub returns : goal.returns
returns c = sym (bit_is c.args.depth c.args.i c.requires.0)
