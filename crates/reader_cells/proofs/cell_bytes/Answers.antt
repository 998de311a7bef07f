use Rattle.reader.proofs.Cells.{byte_cell}
use Rattle.reader_cells.proofs.cell_bytes.Goals as goal

pub returns-else-depth-eq16 : goal.returns-else-depth-eq16
returns-else-depth-eq16 c = (byte_cell _ c.requires c.if-depth-eq16.false).1.1
