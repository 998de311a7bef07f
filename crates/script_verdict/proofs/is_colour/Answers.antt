use Rattle.script.proofs.Compared.{colour_shown, colour_refused}
use Rattle.script_verdict.proofs.is_colour.Goals as goal

pub returns-in-Ok : goal.returns-in-Ok
returns-in-Ok c = colour_shown _ _ _ _ c.in-Ok.is c.number-colour.ensures

pub returns-in-Err : goal.returns-in-Err
returns-in-Err c = colour_refused _ _ _ c.in-Err.is
