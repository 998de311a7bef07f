use Rattle.answers.proofs.Answers.{played_narrow, played_accepted, played_refused}
use Rattle.answers_code.proofs.played_of.Goals as goal

pub six_values-requires : goal.six_values-requires
six_values-requires g c = played_narrow _ _ _ _ c.in-Ok.is c.requires

pub returns-in-Ok : goal.returns-in-Ok
returns-in-Ok g c = played_accepted _ _ _ _ _ c.in-Ok.is c.six_values.ensures

pub returns-in-Err : goal.returns-in-Err
returns-in-Err g c = played_refused _ _ _ _ _ _ c.in-Err.is c.as_number.ensures c.as_place.ensures
