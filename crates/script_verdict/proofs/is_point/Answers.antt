use Rattle.script.proofs.Compared.{point_played, point_refused}
use Rattle.script_verdict.proofs.is_point.Goals as goal

pub returns-in-Ok : goal.returns-in-Ok
returns-in-Ok g c = point_played _ _ _ _ _ _ _ _ _ _ _ c.in-Ok.is c.display_on-display.ensures c.number-x.ensures c.number-y.ensures c.read_point.ensures.value c.is_colour.ensures

pub returns-in-Err : goal.returns-in-Err
returns-in-Err g c = point_refused _ _ _ _ _ _ c.in-Err.is
