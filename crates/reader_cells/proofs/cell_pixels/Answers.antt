use native.Mathlib.Omega.{arith}
use Rattle.reader.proofs.Cells.{byte_cell}
use Rattle.reader_cells.proofs.cell_pixels.Goals as goal

pub nonzero_div-result : goal.nonzero_div-result
nonzero_div-result c = omega (arith, (byte_cell _ c.requires c.if-depth-eq16.false).0)

pub returns-else-depth-eq16 : goal.returns-else-depth-eq16
returns-else-depth-eq16 c = (byte_cell _ c.requires c.if-depth-eq16.false).1.0
