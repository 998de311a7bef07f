use Prim.Native.Nat.{◌-◌}
use mathlib.Core.Path.{ap, ◌∙◌}
use Rattle.reader.specs.Along.{colours_from}
use Rattle.reader_cells.proofs.Loop.{part_length}
use Rattle.reader_line.proofs.Parts.{length_colours, part_stored}
use Rattle.reader_line.proofs.fill_part.Goals as goal

pub returns : goal.returns
returns c = let a = c.args in
    let p = c.requires in
    let columns = part_length a.line.now a.from a.to p.1.1.0 p.1.1.1.0 in
    part_stored a.line.now _ (colours_from a.d a.values a.q a.memory.now a.from (a.to - a.from)) a.from a.to p.1.1.0 p.1.1.1.0
    (length_colours a.d a.values a.q a.memory.now a.from (a.to - a.from))
    (c.fill_run.ensures ∙ ap (colours_from a.d a.values a.q a.memory.now a.from) columns)
