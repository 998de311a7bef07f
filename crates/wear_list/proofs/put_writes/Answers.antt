use native.Mathlib.Omega.{arith}
use Rattle.wear.proofs.Commands.{written_start, written_room, written_x, written_y, written_turn, written_end}
use Rattle.wear_list.proofs.put_writes.Goals as goal

pub loop-i-init : goal.loop-i-init
loop-i-init c = written_start _ _ _ _ c.requires.digits_value

pub glyph_at-c-requires : goal.glyph_at-c-requires
glyph_at-c-requires c = let l = c.loop-i in (written_x _ _ _ _ l.list l.i l.invariant c.loop-i-test.true, written_y _ _ _ _ l.list l.i l.invariant c.loop-i-test.true)

pub overflow_mul-i-in-loop-i : goal.overflow_mul-i-in-loop-i
overflow_mul-i-in-loop-i c = omega (arith, c.loop-i-test.true, c.requires.digits_len_bound)

pub overflow_add-at : goal.overflow_add-at
overflow_add-at c = omega (arith, c.loop-i-test.true, written_room _ _ _ _ c.requires.digits_in_bounds)

pub put_command-requires : goal.put_command-requires
put_command-requires c = omega (arith, c.loop-i-test.true, written_room _ _ _ _ c.requires.digits_in_bounds, c.loop-i.invariant.same)

pub loop-i-preserved : goal.loop-i-preserved
loop-i-preserved c = let l = c.loop-i in written_turn _ _ _ _ l.list l.i l.invariant c.loop-i-test.true _ c.glyph_at-c.ensures c.put_command.ensures

pub returns : goal.returns
returns c = let l = c.loop-i in written_end _ _ _ _ l.list l.i l.invariant (omega (arith, c.loop-i-test.false))
