use Rattle.ring.proofs.Told.{answer_held, answer_blank, held_some}
use Rattle.ring_code.proofs.slot_hour.Goals as goal

pub overflow_sub-result : goal.overflow_sub-result
overflow_sub-result c = let a = c.args in held_some a.any c.steps_to-at.result a.held a.age c.if-any-at.true

pub returns-then-any-at : goal.returns-then-any-at
returns-then-any-at c =
    let told = answer_held _ _ _ _ _ _ c.steps_to-at.ensures c.if-any-at.true in record { result_value = told.0; value = told.1 }

pub returns : goal.returns
returns c = let told = answer_blank _ _ _ _ _ _ c.steps_to-at.ensures c.if-any-at.false in record { result_value = told.0; value = told.1 }
