use native.Mathlib.Omega.{arith}
use mathlib.Core.Path.{sym}
use lib.Seq.{length-take-le}
use Rattle.compile.proofs.Numbers.{accepted_fits}
use Rattle.compile.proofs.run.Goals as goal

pub slice_bounds-stream-end : goal.slice_bounds-stream-end
slice_bounds-stream-end g c = omega (arith, accepted_fits _ _ _ _ _ c.compile_for-answer.ensures.value c.in-Ok.is)

pub slice_bounds-print_stream-end : goal.slice_bounds-print_stream-end
slice_bounds-print_stream-end g c = sym (length-take-le _ _ (omega (arith, accepted_fits _ _ _ _ _ c.compile_for-answer.ensures.value c.in-Ok.is)))
