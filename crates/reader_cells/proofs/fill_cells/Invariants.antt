use Prim.Native.Nat.{◌*◌}
use Rattle.record.proofs.Filled.{Filled}
use Rattle.reader.specs.Along.{cells_colour}
use Rattle.reader_cells.proofs.fill_cells.Given as goal

-- i cells are filled
abbrev pub invariant-loop-i : goal.invariant-loop-i
invariant-loop-i g l = Filled (cells_colour g.row.DEPTH l.memory l.back l.at) l.initial.line l.line (l.i * l.pixels)
