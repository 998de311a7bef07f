use native.Mathlib.Omega.{arith}
use Rattle.answers.proofs.Answers.{point_accepted, point_refused, point_narrow}
use Rattle.answers_code.proofs.point_of.Goals as goal

pub overflow_cast-result-in-Ok : goal.overflow_cast-result-in-Ok
overflow_cast-result-in-Ok g c = omega (arith, point_narrow _ _ _ c.in-Ok.is c.requires)

pub returns-in-Ok : goal.returns-in-Ok
returns-in-Ok g c = point_accepted _ _ _ c.in-Ok.is

pub returns-in-Err : goal.returns-in-Err
returns-in-Err g c = point_refused _ _ _ _ c.in-Err.is c.as_number.ensures
