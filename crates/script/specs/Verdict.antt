-- Whether a step is as the papers have it, and what that says of an example and of all.
use Rattle.std.specs.Prelude.{Result, Ok, Err}
use Rattle.refusal.specs.declared.Refusal.{Refusal}
use Rattle.std.specs.Prelude.{ℕ, ◌+◌, ◌*◌, ◌%◌, List, [], ◌∷◌, Bool, true, false, ◌&&◌, ◌||◌, cond, length, ltb, eqb}
use Rattle.record.specs.Bytes.{byte_at}
use Rattle.screen.specs.Screen.{memory_size}
use Rattle.compiler.specs.Compile.{Compiling}
use Rattle.screen.specs.declared.ScreenValues.{ScreenValues}
use Rattle.reader.specs.Read.{reading, answer_of}
use Rattle.reader.specs.declared.Display.{Display}
use Rattle.reader.specs.declared.Point.{Point}
use Rattle.script.specs.Script.{number_at, number_of}
use Rattle.script.specs.Steps.{screen_step, command_step, long_step, word_step, store_step, patch_step, example_step, keep_step, compile_step, older_step, play_step}
use Rattle.script.specs.declared.Tally.{Tally}

-- ---- the steps that only compare, and the end of an example
-- reg and a blank
abbrev pub reg_step : ℕ
reg_step = 0x20676572

-- reco
abbrev pub records_step : ℕ
records_step = 0x6F636572

-- poin
abbrev pub point_step : ℕ
point_step = 0x6E696F70

-- same
abbrev pub same_step : ℕ
same_step = 0x656D6173

-- done
abbrev pub done_step : ℕ
done_step = 0x656E6F64

-- ---- what each compares
-- compiling gave the line's number
abbrev pub is_answer : List ℕ → Compiling → Bool
is_answer line c = eqb c.number (number_of line 0)

-- playing was not refused
unfoldable pub is_played : {E : Type 0} → Result ScreenValues E → Bool
is_played (Ok v) = true
is_played (Err r) = false

-- the line's record is in the stream, and is the line's register at the line's value
unfoldable pub is_record : List ℕ → Compiling → List ℕ → Bool
is_record line c stream =
    let at = 8 * number_of line 0 in
    ltb at c.length
    && (eqb (number_at stream at) (number_of line 1)
    && eqb (number_at stream (at + 4)) (number_of line 2 + 65536 * number_of line 3))

-- the stream has the line's number of records
abbrev pub has_records : List ℕ → Compiling → Bool
has_records line c = eqb c.length (8 * number_of line 0)

-- the panel as compiling sets it, in the size that the desk has
unfoldable pub display_on : Compiling → List ℕ → Display
display_on c desk =
    record {
      depth = c.depth;
      rotation = c.rotation;
      flag = c.flag;
      width = number_at desk 4 % 65536;
      height = number_at desk 6 % 65536;
    }

-- a point shows the line's colour
unfoldable pub is_colour : List ℕ → Result Point Refusal → Bool
is_colour line (Ok p) = eqb p.colour (number_of line 2)
is_colour line (Err r) = false

-- the line's panel point, after playing, shows the line's colour
unfoldable pub is_point : {E : Type 0} → List ℕ → Compiling → Result ScreenValues E → List ℕ → List ℕ → Bool
is_point line c (Ok v) desk memory =
    is_colour line (answer_of (reading memory_size (display_on c desk) v (number_of line 0) (number_of line 1) memory))
is_point line c (Err r) desk memory = false

-- two memories hold the same bytes
unfoldable pub same_bytes : List ℕ → List ℕ → Bool
same_bytes [] [] = true
same_bytes [] (y ∷ ys) = false
same_bytes (x ∷ xs) [] = false
same_bytes (x ∷ xs) (y ∷ ys) = eqb x y && same_bytes xs ys

-- ---- the other lines
-- a step that compares nothing
abbrev pub is_setting : ℕ → Bool
is_setting k =
    eqb k screen_step
    || (eqb k command_step
    || (eqb k long_step
    || (eqb k word_step
    || (eqb k store_step || (eqb k patch_step || (eqb k example_step || (eqb k keep_step || eqb k done_step)))))))

-- a line that is empty or begins with #
abbrev pub is_comment : List ℕ → Bool
is_comment line = eqb (length line) 0 || eqb (byte_at line 0) 35

-- ---- the verdict
-- a line is as the papers have it; a line that is neither a step nor a comment is not
unfoldable pub holds : {E : Type 0} → ℕ → List ℕ → Compiling → Result ScreenValues E → List ℕ → List ℕ → List ℕ → List ℕ → Bool
holds k line c p desk stream memory kept =
    cond (eqb k compile_step || eqb k older_step) (is_answer line c)
    (cond (eqb k play_step) (is_played p)
    (cond (eqb k reg_step) (is_record line c stream)
    (cond (eqb k records_step) (has_records line c)
    (cond (eqb k point_step) (is_point line c p desk memory)
    (cond (eqb k same_step) (same_bytes memory kept)
    (is_setting k || is_comment line))))))

-- whether all lines since an example's first were so, and whether all were
unfoldable pub judged : ℕ → Tally → Bool → Tally
judged k t ok = record { example = (eqb k example_step || t.example) && ok; all = t.all && ok }
