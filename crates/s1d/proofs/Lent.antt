-- The parts of what the functions over a lent player get back: a player and an answer.
use mathlib.Core.Path.{◌≡◌, ap}
use Rattle.chip.specs.Play.{Playing}
use Rattle.serial.specs.Serial.{answer_of, fed_of}
use Rattle.serial.specs.declared.Player.{Player}
use Rattle.serial.specs.declared.Fed.{Fed}

pub answered : (r : Fed) (p : Player) (g : Playing) → r ≡ fed_of p g → r.answer ≡ answer_of g
unfolding fed_of
answered r p g e = ap (λ (f : Fed). f.answer) e

pub left_player : (r : Fed) (p : Player) (g : Playing) → r ≡ fed_of p g → r.player ≡ p
unfolding fed_of
left_player r p g e = ap (λ (f : Fed). f.player) e
