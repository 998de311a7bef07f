use mathlib.Core.Path.{◌≡◌}
use Rattle.record.proofs.Filled.{Filled}
use Rattle.view.specs.Steps.{bits_after}
use Rattle.reader.specs.Along.{step_colour}
use Rattle.reader_line.proofs.fill_by.Given as goal

-- the bits are those after so many steps, and as many colours are stored
abbrev pub invariant-loop-colour : goal.invariant-loop-colour
invariant-loop-colour l = (l.bits ≡ bits_after l.s l.colour-index) × Filled (step_colour l.depth l.memory l.s) l.initial.line l.line l.colour-index
