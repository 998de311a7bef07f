-- Playing a stream over a memory (01, "Refusal numbers": playing checks 18, 19, then 20 to 23 record by record, the end last).
use Rattle.std.specs.Prelude.{ℕ, suc, ◌/◌, ◌%◌, List, [], ◌∷◌, not, cond, length, Result, Ok, Err, eqb}
use Rattle.record.specs.Record.{records_of}
use Rattle.record.specs.declared.Record.{Record}
use Rattle.screen.specs.declared.ScreenValues.{ScreenValues}
use Rattle.chip.specs.Admit.{refusal, no_data, chip_after, effect}
use Rattle.chip.specs.declared.Chip.{Chip}
use Rattle.chip.specs.declared.Run.{Run}
use Rattle.refusal.specs.Number as refusals
use Rattle.refusal.specs.declared.Refused.{Refused}

abbrev pub no_values : ScreenValues
no_values = record { main = record { start = 0; offset = 0 }; window = record { start = 0; offset = 0 }; x = 0; y = 0 }

-- "all registers begin at 0"
unfoldable pub new_chip : Chip
new_chip =
    record {
      screen = no_values;
      blit = record { control = 0; command = 0; source = 0; destination = 0; offset = 0; width = 0; height = 0; background = 0; foreground = 0 };
      due = no_data;
    }

-- what records come to: the number and index of the first that is refused, or 0 and 0, and the chip after those before it
pub record Running : Type 0 where
  pub number : ℕ
  pub place : ℕ
  pub chip : Chip

-- admits records in order, of which the first has index i: the chip after them, or the first refusal and its index
unfoldable pub run : ℕ → Chip → ℕ → List Record → Running
run m c i [] = record { number = 0; place = 0; chip = c }
run m c i (r ∷ rs) =
    cond (eqb (refusal m c r) 0) (run m (chip_after c r) (suc i) rs) (record { number = refusal m c r; place = i; chip = c })

-- applies records in order
unfoldable pub applied : Chip → List Record → List ℕ → List ℕ
applied c [] old = old
applied c (r ∷ rs) old = applied (chip_after c r) rs (effect c r old)

-- what playing gives back: number, place and the six screen values
pub record Playing : Type 0 where
  pub number : ℕ
  pub place : ℕ
  pub values : ScreenValues

abbrev pub refused_by : ℕ → ℕ → Playing
refused_by n i = record { number = n; place = i; values = no_values }

-- the end of a stream of n records: 23 while data is due
unfoldable pub ending : Running → ℕ → Playing
ending r n =
    cond (not (eqb r.number 0)) (refused_by r.number r.place)
    (cond r.chip.due.any (refused_by 23 n) (record { number = 0; place = 0; values = r.chip.screen }))

-- playing a stream over a memory, the chip's being m bytes
unfoldable pub playing : ℕ → List ℕ → List ℕ → Playing
playing m stream memory =
    cond (not (eqb (length memory) m)) (refused_by 18 0)
    (cond (not (eqb (length stream % 8) 0)) (refused_by 19 0)
    (ending (run m new_chip 0 (records_of stream)) (length stream / 8)))

-- the memory afterwards: a refused stream leaves it as it was
unfoldable pub played : ℕ → List ℕ → List ℕ → List ℕ
played m stream memory = cond (eqb (playing m stream memory).number 0) (applied new_chip (records_of stream) memory) memory

-- the numbers of an answer, whose refusals have these numbers and places: of a refusal all but number and place are 0
unfoldable pub playing_by : {E : Type 0} → (E → ℕ) → (E → ℕ) → Result ScreenValues E → Playing
playing_by number_in place_in (Ok v) = record { number = 0; place = 0; values = v }
playing_by number_in place_in (Err r) =
    record {
      number = number_in r;
      place = place_in r;
      values = record { main = record { start = 0; offset = 0 }; window = record { start = 0; offset = 0 }; x = 0; y = 0 };
    }

-- 01's numbers of an answer
abbrev pub playing_of : Result ScreenValues Refused → Playing
playing_of a = playing_by refusals.refused_number refusals.refused_place a

-- the answer with these numbers
unfoldable pub answer_of : Playing → Result ScreenValues Refused
answer_of p = refusals.answered_at p.number p.place p.values

-- the numbers of a run
unfoldable pub running_of : Run → Running
running_of r = record { number = refusals.number_at r.refused; place = refusals.place_at r.refused; chip = r.chip }
