use mathlib.Core.Path.{◌≡◌}
use Prim.Native.Nat.{◌+◌, ◌%◌}
use lib.ListN.{get_or}
use Rattle.blit.specs.Line.{straight_line}
use Rattle.blit_pattern.proofs.first_pixels.Given as goal

abbrev pub invariant-loop-i : goal.invariant-loop-i
invariant-loop-i g l = l.line ≡ straight_line g.row.BYTES (λ s d. s) (λ k. get_or l.row ((l.x + k) % 8) 0) l.i l.initial.line
