use native.Mathlib.Omega.{arith}
use Rattle.script.proofs.Laws.{line_within}
use Rattle.papers.proofs.run.Goals as goal

-- the line ends within the script
pub slice_bounds-line-end : goal.slice_bounds-line-end
slice_bounds-line-end g c = omega (arith, line_within c.args.script.now c.loop-at.at (omega arith))

pub overflow_add-at : goal.overflow_add-at
overflow_add-at g c = omega (arith, line_within c.args.script.now c.loop-at.at (omega arith))

pub loop-at-smaller : goal.loop-at-smaller
loop-at-smaller g c = omega (arith, c.line_end-end.ensures, c.loop-at-test.true)
