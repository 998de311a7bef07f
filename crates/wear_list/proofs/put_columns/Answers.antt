use native.Mathlib.Omega.{arith}
use Rattle.wear.proofs.Commands.{columned_start, columned_room, columned_reach, columned_turn, columned_end}
use Rattle.wear_list.proofs.put_columns.Goals as goal

pub loop-c-init : goal.loop-c-init
loop-c-init c = columned_start _ _ _ c.requires.heights_value

pub overflow_cast-c : goal.overflow_cast-c
overflow_cast-c c = omega (arith, c.loop-c-test.true, c.requires.drawable.count)

pub put_column-at-requires : goal.put_column-at-requires
put_column-at-requires c = let l = c.loop-c in record { checked = c.requires.checked; c_bound = (omega (arith, c.loop-c-test.true, c.requires.drawable.count), c.requires.drawable.low l.c); height_value = columned_reach _ _ _ l.list l.at l.c l.invariant c.loop-c-test.true; height_in_bounds = columned_room _ _ _ l.list l.at l.c l.invariant c.loop-c-test.true c.requires.heights_in_bounds }

pub loop-c-preserved : goal.loop-c-preserved
loop-c-preserved c = let l = c.loop-c in columned_turn _ _ _ l.list l.at l.c l.invariant c.loop-c-test.true _ _ c.put_column-at.ensures.value c.put_column-at.ensures.list_after

pub returns : goal.returns
returns c = let l = c.loop-c in let told = columned_end _ _ _ l.list l.at l.c l.invariant (omega (arith, c.loop-c-test.false)) in record { value = told.0; list_after = told.1 }
