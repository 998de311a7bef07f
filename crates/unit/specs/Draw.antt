-- Compiling and playing in one call, and reading a point afterwards, in terms of the sheet alone.
use Rattle.std.specs.Prelude.{ℕ, List, [], ◌∷◌, ◌++◌, not, ◌&&◌, cond, length, Result, Ok, Err, eqb, ltb}
use Rattle.record.specs.Checks.{Row, row, first_of}
use Rattle.screen.specs.Screen.{fields_of, screen_rows}
use Rattle.screen.specs.Values.{values_of}
use Rattle.screen.specs.declared.ScreenValues.{ScreenValues}
use Rattle.command.specs.Task.{Task, screen_in}
use Rattle.compiler.specs.Compile.{compiling, buffer_after}
use Rattle.chip.specs.Play.{no_values}
use Rattle.reader.specs.Read.{Reading, refused_point}
use Rattle.unit.specs.Sheet.{sheet_after}
use Rattle.unit.specs.Point.{sheet_point}
use Rattle.unit.specs.declared.Drawn.{Drawn}
use Rattle.refusal.specs.Number as refusals
use Rattle.refusal.specs.declared.Refused.{Refused}

-- what drawing gives back: number, place, the stream's length in bytes, and the six screen values
pub record Drawing : Type 0 where
  pub number : ℕ
  pub place : ℕ
  pub length : ℕ
  pub values : ScreenValues

abbrev pub refused_by : ℕ → ℕ → Drawing
refused_by n i = record { number = n; place = i; length = 0; values = no_values }

-- 18 first, then compiling's refusals
unfoldable pub drawing : ℕ → Task → ℕ → List ℕ → Drawing
drawing m t room memory =
    let c = compiling m t room in
    cond (not (eqb (length memory) m)) (refused_by 18 0)
    (cond (eqb c.number 0)
    (record { number = 0; place = 0; length = c.length; values = values_of (screen_in t) })
    (refused_by c.number c.place))

-- the memory afterwards is the sheet's; on refusal what it was
unfoldable pub memory_drawn : ℕ → Task → ℕ → List ℕ → List ℕ
memory_drawn m t room memory = cond (eqb (drawing m t room memory).number 0) (sheet_after m t memory) memory

-- the stream buffer afterwards
unfoldable pub stream_drawn : ℕ → Task → List ℕ → List ℕ → List ℕ
stream_drawn m t old memory = cond (eqb (length memory) m) (buffer_after m t old) old

-- the numbers of an answer, whose refusals have these numbers and places: of a refusal all but number and place are 0
unfoldable pub drawing_by : {E : Type 0} → (E → ℕ) → (E → ℕ) → Result Drawn E → Drawing
drawing_by number_in place_in (Ok d) = record { number = 0; place = 0; length = d.length; values = d.values }
drawing_by number_in place_in (Err r) =
    record {
      number = number_in r;
      place = place_in r;
      length = 0;
      values = record { main = record { start = 0; offset = 0 }; window = record { start = 0; offset = 0 }; x = 0; y = 0 };
    }

-- 01's numbers of an answer
abbrev pub drawing_of : Result Drawn Refused → Drawing
drawing_of a = drawing_by refusals.refused_number refusals.refused_place a

-- the answer with these numbers
unfoldable pub answer_of : Drawing → Result Drawn Refused
answer_of d = refusals.answered_at d.number d.place (record { length = d.length; values = d.values })

-- the checks of a point of a screen: 18, the screen's, then 24
unfoldable pub show_rows : ℕ → List ℕ → ℕ → ℕ → List ℕ → List Row
show_rows m bytes p q memory =
    row 18 (not (eqb (length memory) m))
    ∷ (screen_rows m bytes ++ (row 24 (not (ltb p (fields_of bytes).width && ltb q (fields_of bytes).height)) ∷ []))

-- at a panel point: what the sheet shows, and where it stands
unfoldable pub showing : ℕ → List ℕ → ℕ → ℕ → List ℕ → Reading
showing m bytes p q memory =
    let n = first_of (show_rows m bytes p q memory) in
    cond (eqb n 0) (sheet_point (fields_of bytes) memory p q) (refused_point n)
