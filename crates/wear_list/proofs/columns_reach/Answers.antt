use mathlib.Core.Path.{refl}
use native.Mathlib.Omega.{arith}
use Rattle.record.proofs.Choice.{tested}
use Rattle.wear.proofs.Commands.{reach_on, reach_off, reach_over}
use Rattle.wear_list.proofs.columns_reach.Goals as goal

pub loop-c-init : goal.loop-c-init
loop-c-init c = refl

pub overflow_cast-c : goal.overflow_cast-c
overflow_cast-c c = omega (arith, c.loop-c-test.true, c.requires.drawable.count)

pub column_reach-requires : goal.column_reach-requires
column_reach-requires c = record { checked = c.requires.checked; c_bound = (omega (arith, c.loop-c-test.true, c.requires.drawable.count), c.requires.drawable.low c.loop-c.c) }

pub returns-then-not-column_reach : goal.returns-then-not-column_reach
returns-then-not-column_reach c = reach_off _ _ c.loop-c.c c.loop-c-test.true c.loop-c.invariant (tested c.column_reach.ensures (c.if-not-column_reach.true))

pub loop-c-preserved : goal.loop-c-preserved
loop-c-preserved c = reach_on _ _ c.loop-c.c c.loop-c-test.true c.loop-c.invariant (tested c.column_reach.ensures (c.if-not-column_reach.false))

pub returns : goal.returns
returns c = reach_over _ _ c.loop-c.c c.loop-c.invariant (omega (arith, c.loop-c-test.false))
