-- What is claimed of the two forms (02, g): each answer is decided by its table; there and back gives the old bytes; and a list that is turned
-- long compiles and draws as before.
use Rattle.std.specs.Prelude.{ℕ, ◌<◌, ◌≤◌, ◌≡◌, List, [], ◌∷◌, Bool, true, ◌&&◌, cond, length, take, drop, leb}
use Rattle.record.specs.Bytes.{byte_at, over}
use Rattle.record.specs.Lists.{parts_of}
use Rattle.screen.specs.Screen.{memory_size}
use Rattle.command.specs.Task.{short_form, long_form, task}
use Rattle.compiler.specs.Compile.{Compiling, compiling, buffer_after}
use Rattle.compiler.specs.Part.{of_command, part_from, part_size}
use Rattle.older.specs.Compile.{older_compiling, older_buffer}
use Rattle.unit.specs.Demands.{Decided}
use Rattle.unit.specs.Draw.{drawing, stream_drawn, memory_drawn}
use Rattle.form.specs.Turn.{record_in, turn_rows, turning, turned_into}

-- demand 1 for turning: the number is the table's, and on refusal nothing is written
pub record TurnDecided : Type 0 where
  pub turned : (from to : ℕ) (list : List ℕ) (room : ℕ) → Decided (turning from to list room).number 0 (turn_rows from to list room)
  pub kept : (from to : ℕ) (list target : List ℕ) → 0 < (turning from to list (length target)).number → turned_into from to list target ≡ target

-- the turned list, in the length that turning gave
abbrev pub turned_given : ℕ → ℕ → List ℕ → List ℕ → List ℕ
turned_given from to list target = take (turning from to list (length target)).length (turned_into from to list target)

-- turned, and turned again into another target: accepted, in the old length, and that target begins with the old bytes
pub record ComesBack (from to : ℕ) (list target back : List ℕ) : Type 0 where
  pub answer : turning to from (turned_given from to list target) (length back) ≡ record { number = 0; length = length list }
  pub bytes : turned_into to from (turned_given from to list target) back ≡ over list back

-- no command has an operation above 2
unfoldable pub none_above : List (List ℕ) → Bool
none_above [] = true
none_above (b ∷ bs) = leb (byte_at b 0) 2 && none_above bs

pub record ThereAndBack : Type 0 where
  -- "Going there and back gives the old bytes where no operation is above 2"
  pub there_and_back : (list target back : List ℕ) → (turning short_form long_form list (length target)).number ≡ 0
      → none_above (parts_of short_form list) ≡ true → length list ≤ length back
      → ComesBack short_form long_form list target back
  -- going back and there gives every long list that was accepted
  pub back_and_there : (list target back : List ℕ) → (turning long_form short_form list (length target)).number ≡ 0
      → length list ≤ length back
      → ComesBack long_form short_form list target back

-- the bytes of an answer's part of a list
abbrev pub part_bytes : ℕ → List ℕ → Compiling → List ℕ
part_bytes form list c = take (part_size form list c) (drop (part_from form list c) list)

-- a short list and a long one give the same for every screen, host words, buffer and memory: the answers, places among them, the streams and
-- the memories; a refused part is the long record that begins with the short one's 32 bytes
pub record SameTask (list long : List ℕ) : Type 0 where
  pub answer : (screen words : List ℕ) (room : ℕ) → compiling memory_size (task long_form screen long words) room ≡ compiling memory_size (task short_form screen list words) room
  pub stream : (screen words buffer : List ℕ) → buffer_after memory_size (task long_form screen long words) buffer ≡ buffer_after memory_size (task short_form screen list words) buffer
  pub part : (screen words : List ℕ) (room : ℕ)
      → let c = compiling memory_size (task short_form screen list words) room in
      part_bytes long_form long c ≡ cond (of_command short_form list c) (record_in long_form (part_bytes short_form list c)) []
  pub older_answer : (screen words : List ℕ) (room : ℕ) → older_compiling (task long_form screen long words) room ≡ older_compiling (task short_form screen list words) room
  pub older_stream : (screen words buffer : List ℕ) → older_buffer (task long_form screen long words) buffer ≡ older_buffer (task short_form screen list words) buffer
  pub drawn : (screen words : List ℕ) (room : ℕ) (memory : List ℕ) → drawing memory_size (task long_form screen long words) room memory ≡ drawing memory_size (task short_form screen list words) room memory
  pub drawn_stream : (screen words buffer memory : List ℕ) → stream_drawn memory_size (task long_form screen long words) buffer memory ≡ stream_drawn memory_size (task short_form screen list words) buffer memory
  pub drawn_memory : (screen words : List ℕ) (room : ℕ) (memory : List ℕ) → memory_drawn memory_size (task long_form screen long words) room memory ≡ memory_drawn memory_size (task short_form screen list words) room memory

-- "a list with no operation above 2, turned long, compiles to the same answer and the same stream"
abbrev pub TurnedSame : Type 0
TurnedSame =
    (list target : List ℕ) → (turning short_form long_form list (length target)).number ≡ 0 → none_above (parts_of short_form list) ≡ true
    → SameTask list (turned_given short_form long_form list target)
