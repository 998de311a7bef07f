use mathlib.Core.Path.{◌≡◌}
use Rattle.blit.specs.Line.{work_line}
use Rattle.blit_line.proofs.smear_pixels.Given as goal

abbrev pub invariant-loop-n : goal.invariant-loop-n
invariant-loop-n l = l.line ≡ work_line l.down l.bytes l.width l.mix l.source l.lag l.n l.initial.line
