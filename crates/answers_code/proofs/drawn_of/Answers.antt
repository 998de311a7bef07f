use Rattle.answers.proofs.Answers.{drawn_narrow, drawn_accepted, drawn_refused}
use Rattle.answers_code.proofs.drawn_of.Goals as goal

pub six_values-requires : goal.six_values-requires
six_values-requires g c = drawn_narrow _ _ _ _ c.in-Ok.is c.requires

pub returns-in-Ok : goal.returns-in-Ok
returns-in-Ok g c = drawn_accepted _ _ _ _ _ c.in-Ok.is c.six_values.ensures

pub returns-in-Err : goal.returns-in-Err
returns-in-Err g c = drawn_refused _ _ _ _ _ _ c.in-Err.is c.as_number.ensures c.as_place.ensures
