use lib.Seq.{length-take-le}
use mathlib.Core.Path.{sym}
use native.Mathlib.Omega.{arith}
use Rattle.strip.proofs.run_with.Goals as goal

pub slice_bounds-show_strip-end : goal.slice_bounds-show_strip-end
slice_bounds-show_strip-end g c = sym (length-take-le 262144 c.memory-memory.result (omega (arith, c.memory-memory.ensures.size)))
