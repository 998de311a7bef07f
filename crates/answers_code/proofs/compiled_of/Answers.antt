use Rattle.answers.proofs.Answers.{compiled_accepted, compiled_refused}
use Rattle.answers_code.proofs.compiled_of.Goals as goal

pub returns-in-Ok : goal.returns-in-Ok
returns-in-Ok g c = compiled_accepted _ _ _ _ _ _ _ c.part_of-part.ensures _ c.in-Ok.is

pub returns-in-Err : goal.returns-in-Err
returns-in-Err g c = compiled_refused _ _ _ _ _ _ _ c.part_of-part.ensures _ _ _ c.in-Err.is c.as_number.ensures c.as_place.ensures
