use native.Mathlib.Omega.{arith}
use mathlib.Core.Bool.{not}
use mathlib.Core.Path.{ap}
use borrow.Author.Tests.{eq-eqb, ne_eqb}
use Rattle.serial.proofs.Ways.{player_as, refused_place, no_place}
use Rattle.serial_state.proofs.player_with.Goals as goal

pub returns-then-refused : goal.returns-then-refused
returns-then-refused c = let a = c.args in
    player_as a.t a.half a.held a.t.count c.six_values.result (omega arith) c.requires.0 c.requires.1 c.six_values.ensures
    (refused_place a.t.number a.t.count (ap not (ne_eqb _ _ c.if-refused.true)))

pub returns-else-refused : goal.returns-else-refused
returns-else-refused c = let a = c.args in
    player_as a.t a.half a.held 0 c.six_values.result (omega arith) c.requires.0 c.requires.1 c.six_values.ensures
    (no_place a.t.number a.t.count (ap not (eq-eqb _ _ c.if-refused.false)))
