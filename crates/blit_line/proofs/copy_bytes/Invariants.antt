use mathlib.Core.Path.{◌≡◌}
use lib.ListN.{length}
use Rattle.blit.specs.Line.{copied}
use Rattle.blit_line.proofs.copy_bytes.Given as goal

abbrev pub invariant-loop-i : goal.invariant-loop-i
invariant-loop-i l = (length l.to ≡ length l.initial.to) × (l.to ≡ copied l.from l.at l.i l.initial.to)
