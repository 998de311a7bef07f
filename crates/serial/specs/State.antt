-- What a player's numbers mean (02, request a: "The player keeps the half-read record, all registers and a record count (it stops at
-- 2^64 − 1) between blocks").
use Rattle.std.specs.Prelude.{ℕ, ◌+◌, min, List, [], not, cond, eqb, length, take, replicate}
use Rattle.record.specs.Bytes.{over}
use Rattle.screen.specs.Values.{six_values, values_with}
use Rattle.chip.specs.Play.{new_chip}
use Rattle.chip.specs.declared.Chip.{Chip}
use Rattle.serial.specs.declared.Player.{Player}

-- a player between two bytes: the chip, the bytes of the half-read record, the records taken, and the number that refused the
-- record after them, 0 while none was refused
pub record State : Type 0 where
  pub chip : Chip
  pub half : List ℕ
  pub count : ℕ
  pub number : ℕ

-- the largest record count, 2^64 − 1
abbrev pub most_records : ℕ
most_records = 18446744073709551615

-- one record more, as far as the count goes
abbrev pub counted : ℕ → ℕ
counted n = min (n + 1) most_records

-- no record is half read, and none was refused
abbrev pub between : Chip → ℕ → State
between c n = record { chip = c; half = []; count = n; number = 0 }

-- bytes of the half-read record; a length above 7 means 7
abbrev pub held_by : Player → ℕ
held_by p = min p.held 7

-- the registers, and the data that is due
unfoldable pub chip_of : Player → Chip
chip_of p =
    record {
      screen = values_with p.values;
      blit = p.blit;
      due = record { any = not (eqb p.due 0); line = p.line; word = p.word };
    }

-- the state of a player that keeps no answer
unfoldable pub state_of : Player → State
state_of p = record { chip = chip_of p; half = take (held_by p) p.half; count = p.count; number = 0 }

-- the place of a refused record is the count of those before it
abbrev pub place_by : State → ℕ
place_by s = cond (eqb s.number 0) 0 s.count

-- the player in a state: a refusal is kept, and bytes that hold nothing are 0
unfoldable pub player_of : State → Player
player_of s =
    record {
      values = six_values s.chip.screen;
      blit = s.chip.blit;
      due = cond s.chip.due.any 1 0;
      line = s.chip.due.line;
      word = s.chip.due.word;
      half = over s.half (replicate 7 0);
      held = length s.half;
      count = s.count;
      kept = cond (eqb s.number 0) 0 1;
      number = s.number;
      place = place_by s;
    }

-- a new player: all registers are 0, no record was read
unfoldable pub new_player : Player
new_player = player_of (between new_chip 0)
