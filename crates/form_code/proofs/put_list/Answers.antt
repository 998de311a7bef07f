use native.Mathlib.Omega.{arith}
use Rattle.command.proofs.Forms.{form_least, part_ends}
use Rattle.form.proofs.Loops.{putting_start, putting_turn, putting_end, room_left, part_least}
use Rattle.form_code.proofs.put_list.Goals as goal

pub nonzero_div-count : goal.nonzero_div-count
nonzero_div-count c = omega (arith, form_least c.args.from c.requires.from_value)

pub loop-i-init : goal.loop-i-init
loop-i-init c = putting_start _ _ _ _

pub overflow_mul-at : goal.overflow_mul-at
overflow_mul-at c = omega (arith, (part_ends _ _ _ c.loop-i-test.true))

pub overflow_add-end : goal.overflow_add-end
overflow_add-end c = omega (arith, (part_ends _ _ _ c.loop-i-test.true))

pub slice_bounds-put_record-end : goal.slice_bounds-put_record-end
slice_bounds-put_record-end c = omega (arith, (part_ends _ _ _ c.loop-i-test.true))

pub overflow_mul-i : goal.overflow_mul-i
overflow_mul-i c = omega (arith, (part_ends _ _ _ c.loop-i-test.true), (let l = c.loop-i in room_left _ _ _ _ l.target _ l.i l.invariant c.loop-i-test.true c.requires.to_in_bounds), c.loop-i.invariant.same)

pub put_record-requires : goal.put_record-requires
put_record-requires c = record { form_value = c.requires.to_value; in_bounds = part_least _ _ _ c.requires.from_value c.loop-i-test.true; form_in_bounds = (let l = c.loop-i in room_left _ _ _ _ l.target _ l.i l.invariant c.loop-i-test.true c.requires.to_in_bounds) }

pub loop-i-preserved : goal.loop-i-preserved
loop-i-preserved c = let l = c.loop-i in putting_turn _ _ _ _ l.target _ l.i l.invariant c.loop-i-test.true c.requires.from_value c.requires.to_value _ c.put_record.ensures

pub returns : goal.returns
returns c = let l = c.loop-i in putting_end _ _ _ _ l.target _ l.i l.invariant c.loop-i-test.false
