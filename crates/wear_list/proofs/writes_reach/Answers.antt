use Rattle.wear.proofs.Commands.{writes_reached, writes_none}
use native.Mathlib.Omega.{arith}
use Rattle.wear_list.proofs.writes_reach.Goals as goal

pub returns-then-n-eq0 : goal.returns-then-n-eq0
returns-then-n-eq0 c = writes_none _ _ c.if-n-eq0.true

pub returns : goal.returns
returns c = writes_reached _ _ (omega (arith, c.if-n-eq0.false))
