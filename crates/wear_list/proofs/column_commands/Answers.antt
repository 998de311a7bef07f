use mathlib.Core.Path.{sym, ◌∙◌}
use native.Mathlib.Omega.{arith}
use lib.ListN.{get_or}
use Rattle.wear.proofs.Commands.{count_start, count_step, count_end, one_or_two}
use Rattle.wear_list.proofs.column_commands.Goals as goal

pub loop-height-init : goal.loop-height-init
loop-height-init c = (omega arith, count_start _)

pub overflow_add-n : goal.overflow_add-n
overflow_add-n c = omega (arith, one_or_two (get_or c.args.heights.now c.loop-height.height-index 0) c.column_count-n.result c.column_count-n.ensures, c.loop-height.invariant.0, c.loop-height-test.true, c.requires)

pub loop-height-preserved : goal.loop-height-preserved
loop-height-preserved c = let l = c.loop-height in (omega (arith, one_or_two (get_or c.args.heights.now c.loop-height.height-index 0) c.column_count-n.result c.column_count-n.ensures, l.invariant.0), l.invariant.1 ∙ count_step _ l.height-index l.n _ c.loop-height-test.true c.column_count-n.ensures)

pub returns : goal.returns
returns c = let l = c.loop-height in sym (l.invariant.1 ∙ count_end _ l.height-index l.n (omega (arith, c.loop-height-test.false)))
