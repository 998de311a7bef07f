use mathlib.Core.Path.{◌≡◌}
use Rattle.blit.specs.Line.{straight_line}
use Rattle.blit_line.proofs.fill_pixels.Given as goal

abbrev pub invariant-loop-i : goal.invariant-loop-i
invariant-loop-i g l = l.line ≡ straight_line g.row.BYTES (λ s d. s) (λ k. l.colour) l.i l.initial.line
