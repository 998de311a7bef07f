use Rattle.record.proofs.Filled.{Filled}
use Rattle.reader.specs.Along.{cell_colour}
use Rattle.reader_cells.proofs.fill_cell.Given as goal

abbrev pub invariant-loop-t : goal.invariant-loop-t
invariant-loop-t l = Filled (cell_colour l.depth l.memory l.back l.at) l.initial.cell l.cell l.t
