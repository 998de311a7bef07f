use Rattle.ring.proofs.Runs.{blank_one, blank_two}
use Rattle.std.proofs.Common.{◌+◌, ◌-◌, arith}
use Rattle.ring_code.proofs.Parts.{part_zeroed}
use Rattle.ring_code.proofs.blank.Goals as goal

pub returns-then-back-at : goal.returns-then-back-at
returns-then-back-at c = let a = c.args in
    blank_one a.from _ a.n a.hours c.slot_of-at.result c.slot_of-at.ensures _ c.if-back-at.true
    (part_zeroed _ _ _ _ (omega arith) (omega arith) (c.fill.ensures.after (λ y e. e)))

pub returns : goal.returns
returns c = let a = c.args in
    blank_two a.from _ a.n a.hours c.slot_of-at.result c.slot_of-at.ensures _ _ (omega arith) (omega arith)
    (part_zeroed _ _ _ _ (omega arith) (omega arith) (c.fill-2.ensures.after (λ y e. e)))
    (part_zeroed _ _ (a.from + 512 - (a.hours - c.slot_of-at.result)) (a.from + 512) (omega arith) (omega arith) (c.fill-3.ensures.after (λ y e. e)))
