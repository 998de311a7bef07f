use Rattle.std.proofs.Common.{arith}
use Rattle.record.proofs.Choice.{tested}
use Rattle.ring.proofs.Stored.{taken_low, taken_hours, sample_refused, sample_taken}
use Rattle.ring_code.proofs.take_sample.Goals as goal

pub returns-then-not-takes : goal.returns-then-not-takes
returns-then-not-takes c = sample_refused _ _ _ (tested c.takes.ensures c.if-not-takes.true)

pub overflow_sub-hours : goal.overflow_sub-hours
overflow_sub-hours c =
    let on = taken_hours _ _ _ _ (tested c.takes.ensures c.if-not-takes.false) in omega (arith, c.hours_on-hours.ensures, on)

pub blank-requires-clause-hours_bound : goal.blank-requires-clause-hours_bound
blank-requires-clause-hours_bound c =
    let on = taken_hours _ _ _ _ (tested c.takes.ensures c.if-not-takes.false) in omega (arith, c.hours_on-hours.ensures, on)

pub overflow_add-heights : goal.overflow_add-heights
overflow_add-heights c = let low = taken_low _ _ _ _ (tested c.takes.ensures c.if-not-takes.false) in omega (arith, low)

pub overflow_cast-heights : goal.overflow_cast-heights
overflow_cast-heights c = let low = taken_low _ _ _ _ (tested c.takes.ensures c.if-not-takes.false) in omega (arith, low)

pub returns : goal.returns
returns c =
    let a = c.args in
    sample_taken a.ring _ a.sequence a.height _ c.slot_of-at.result (tested c.takes.ensures c.if-not-takes.false)
    c.hours_on-hours.ensures c.slot_of-at.ensures c.blank.ensures
