use Rattle.script.proofs.Compared.{display_accepted, display_refused}
use Rattle.script_verdict.proofs.display_on.Goals as goal

pub returns-in-Ok : goal.returns-in-Ok
returns-in-Ok g c = display_accepted _ _ _ _ _ _ c.number_at-width.ensures c.number_at-height.ensures _ c.in-Ok.is

pub returns-in-Err : goal.returns-in-Err
returns-in-Err g c = display_refused _ _ _ _ _ _ c.number_at-width.ensures c.number_at-height.ensures _ c.in-Err.is
