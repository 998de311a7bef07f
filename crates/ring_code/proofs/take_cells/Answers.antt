use Rattle.std.proofs.Common.{length, ap, ◌∙◌, arith, length-set}
use Rattle.record.proofs.Choice.{tested}
use Rattle.ring.proofs.Stored.{taken_low, taken_hours, taken_number, refused_number, cells_refused, cells_taken, length_blanked}
use Rattle.refusal.specs.Number.{number, number_by}
use Rattle.ring_code.proofs.take_cells.Goals as goal

pub returns-then-not-takes : goal.returns-then-not-takes
unfolding number number_by
returns-then-not-takes c =
    let a = c.args in
    let t = tested c.takes.ensures c.if-not-takes.true in
    record { value = refused_number _ _ _ t; cells_after = cells_refused a.cells.now a.sequence a.height c.requires t }

pub overflow_sub-hours : goal.overflow_sub-hours
overflow_sub-hours c =
    let on = taken_hours _ _ _ _ (tested c.takes.ensures c.if-not-takes.false) in omega (arith, c.hours_on-hours.ensures, on)

pub blank-requires : goal.blank-requires
blank-requires c =
    let on = taken_hours _ _ _ _ (tested c.takes.ensures c.if-not-takes.false) in
    record { from_in_bounds = omega (arith, c.requires); hours_bound = omega (arith, c.hours_on-hours.ensures, on) }

pub bounds-cells-1-2 : goal.bounds-cells-1-2
bounds-cells-1-2 c =
    let kept = ap length c.blank.ensures ∙ length_blanked _ _ _ _ ∙ c.requires in simp length-set (omega (arith, kept))

pub bounds-cells-at : goal.bounds-cells-at
bounds-cells-at c =
    let kept = ap length c.blank.ensures ∙ length_blanked _ _ _ _ ∙ c.requires in
    simp length-set (omega (arith, kept, c.slot_of-at.ensures))

pub overflow_add-cells-2 : goal.overflow_add-cells-2
overflow_add-cells-2 c = let low = taken_low _ _ _ _ (tested c.takes.ensures c.if-not-takes.false) in omega (arith, low)

pub overflow_cast-cells : goal.overflow_cast-cells
overflow_cast-cells c = let low = taken_low _ _ _ _ (tested c.takes.ensures c.if-not-takes.false) in omega (arith, low)

pub bounds-cells-at-2 : goal.bounds-cells-at-2
bounds-cells-at-2 c =
    let kept = ap length c.blank.ensures ∙ length_blanked _ _ _ _ ∙ c.requires in
    simp length-set (omega (arith, kept, c.slot_of-at.ensures))

pub returns : goal.returns
unfolding number_by
returns c =
    let a = c.args in
    let t = tested c.takes.ensures c.if-not-takes.false in
    record {
      value = taken_number _ _ _ t;
      cells_after =
          cells_taken a.cells.now _ a.sequence a.height _ c.slot_of-at.result c.requires t c.hours_on-hours.ensures
          c.slot_of-at.ensures (omega (arith, c.slot_of-at.ensures)) c.blank.ensures;
    }
