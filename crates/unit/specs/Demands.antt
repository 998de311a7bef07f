-- The three demands, as the customer wrote them, of lists in either form at once (02, g: a task has its form, any number); and the first two for
-- the older units' S1D13706 (02, d).
use Rattle.std.specs.Prelude.{ℕ, ◌<◌, ◌≡◌, List, ◌↔◌, length, take}
use Rattle.record.specs.Lists.{AllBelow}
use Rattle.record.specs.Record.{records_of}
use Rattle.record.specs.Checks.{Row, first_of, AllPass, FirstFails}
use Rattle.record.specs.declared.Record.{Record}
use Rattle.screen.specs.Screen.{memory_size, fields_of, screen_rows}
use Rattle.screen.specs.Values.{values_of}
use Rattle.screen.specs.declared.Screen.{Screen}
use Rattle.screen.specs.declared.ScreenValues.{ScreenValues}
use Rattle.view.specs.Walk.{place_of}
use Rattle.view.specs.Shows.{Shows, shown_bit}
use Rattle.reader.specs.Read.{display_of, looked_at, read_rows, reading}
use Rattle.reader.specs.Line.{line_number, line_after, line_rows, LineReads}
use Rattle.reader.specs.declared.Display.{Display}
use Rattle.command.specs.Task.{Task, screen_in}
use Rattle.compiler.specs.Compile.{Compiling, compiling, buffer_after}
use Rattle.chip.specs.Play.{playing, played}
use Rattle.older.specs.Bytes.{older_memory, older_registers, older_values}
use Rattle.older.specs.Compile.{registers_in, bytes_in, older_rows, older_compiling, older_buffer}
use Rattle.unit.specs.Sheet.{sheet_after}
use Rattle.unit.specs.Point.{sheet_point, sheet_line, LooksTruly}
use Rattle.unit.specs.Tables.{compile_rows, play_rows}

-- Demand 1 of an answer's number and place, and a table: "accepted exactly when document 01's limits hold, else refused with the
-- first number in 01's order"; the place is that of the row, and 0 on acceptance
pub record Decided (number place : ℕ) (rows : List Row) : Type 0 where
  pub accepted : (number ≡ 0) ↔ AllPass rows
  pub nowhere : number ≡ 0 → place ≡ 0
  pub refused : (n i : ℕ) → 0 < n → ((number ≡ n) × (place ≡ i)) ↔ FirstFails rows n i

-- Demand 1: each of compiling, playing and the point reader is decided by its table, and a refusal leaves every lent buffer
-- as it was
pub record Demand1 : Type 0 where
  pub compiled : (t : Task) (room : ℕ)
      → let r = compiling memory_size t room in Decided r.number r.place (compile_rows memory_size t room)
  pub stream_kept : (t : Task) (old : List ℕ) → 0 < (compiling memory_size t (length old)).number → buffer_after memory_size t old ≡ old
  pub plays : (stream memory : List ℕ)
      → let r = playing memory_size stream memory in Decided r.number r.place (play_rows memory_size stream memory)
  pub memory_kept : (stream memory : List ℕ) → 0 < (playing memory_size stream memory).number → played memory_size stream memory ≡ memory
  pub reads : (d : Display) (v : ScreenValues) (p q : ℕ) (memory : List ℕ)
      → let r = reading memory_size d v p q memory in Decided r.number r.place (read_rows memory_size d v p q (length memory))

-- Beside demand 1 (02, i): a whole panel line, in a memory of m bytes, so of either chip, is decided by its table: the rows of its points, the
-- leftmost's first, and 17. A refusal leaves the line buffer as it was, and accepted it has the point reader's colour at each column
pub record LineDemand1 (m : ℕ) : Type 0 where
  pub decided : (d : Display) (v : ScreenValues) (q : ℕ) (memory : List ℕ) (room : ℕ)
      → Decided (line_number m d v q memory room) 0 (line_rows m d v q (length memory) room)
  pub reads : (d : Display) (v : ScreenValues) (q : ℕ) (memory old : List ℕ) → LineReads m d v q memory old

-- Demand 2: "Read back through the chip's walk, each panel point shows the one image pixel that the rotation names, inside
-- memory, the small window over the main", from the register values of an accepted screen record
abbrev pub Demand2 : Type 0
Demand2 =
    (bytes : List ℕ) (p q : ℕ) → first_of (screen_rows memory_size bytes) ≡ 0
    → p < (fields_of bytes).width → q < (fields_of bytes).height
    → Shows memory_size (fields_of bytes).depth
    (place_of (fields_of bytes).depth (fields_of bytes).rotation (fields_of bytes).flag (values_of (fields_of bytes)) p q)
    (shown_bit (fields_of bytes) p q)

-- Beside demand 2 (02, e): "The point reader should say where it looked". From the same values, over any memory of 262,144 bytes, the
-- reading tells the truth about memory
abbrev pub Demand2Read : Type 0
Demand2Read =
    (bytes memory : List ℕ) (p q : ℕ) → first_of (screen_rows memory_size bytes) ≡ 0 → AllBelow 256 memory → length memory ≡ memory_size
    → p < (fields_of bytes).width → q < (fields_of bytes).height
    → LooksTruly memory_size (fields_of bytes) memory p q
    (reading memory_size (display_of (fields_of bytes)) (values_of (fields_of bytes)) p q memory)

-- the stream in the length that compiling gave
abbrev pub stream_given : Task → List ℕ → List ℕ
stream_given t buffer = take (compiling memory_size t (length buffer)).length (buffer_after memory_size t buffer)

-- compiling's depth, rotation and flag, and the panel size
abbrev pub display_by : Compiling → Screen → Display
display_by c s = record { depth = c.depth; rotation = c.rotation; flag = c.flag; width = s.width; height = s.height }

abbrev pub display_given : Task → List ℕ → Display
display_given t buffer = display_by (compiling memory_size t (length buffer)) (screen_in t)

-- what demand 3 claims of a screen record, a list and host words, a stream buffer and a memory: playing the stream is not refused;
-- the memory is then the sheet's; and at every panel point the reader, given playing's six values and the memory it left,
-- gives the colour that the sheet shows, with the byte and bit where it stands
pub record DrawnTruly (t : Task) (buffer memory : List ℕ) : Type 0 where
  pub not_refused : (playing memory_size (stream_given t buffer) memory).number ≡ 0
  pub same_bytes : played memory_size (stream_given t buffer) memory ≡ sheet_after memory_size t memory
  pub same_points : (p q : ℕ) → p < (screen_in t).width → q < (screen_in t).height
      → reading memory_size (display_given t buffer) (playing memory_size (stream_given t buffer) memory).values p q
      (played memory_size (stream_given t buffer) memory)
      ≡ sheet_point (screen_in t) (sheet_after memory_size t memory) p q

-- a task of bytes and 16-bit host words
pub record InBytes (t : Task) : Type 0 where
  pub screen : AllBelow 256 t.screen
  pub list : AllBelow 256 t.list
  pub words : AllBelow 65536 t.words

-- Demand 3: "For any screen, list of up to 64 commands and host words that compile, and any memory of 262,144 bytes"
abbrev pub Demand3 : Type 0
Demand3 =
    (t : Task) (buffer memory : List ℕ) → InBytes t → AllBelow 256 memory
    → length memory ≡ memory_size → (compiling memory_size t (length buffer)).number ≡ 0
    → DrawnTruly t buffer memory

-- a line buffer with a colour for each column gets, of a display, six values and a memory of m bytes, what the sheet shows on panel line q
pub record LineShown (m : ℕ) (d : Display) (v : ScreenValues) (memory : List ℕ) (s : Screen) (sheet : List ℕ) (q : ℕ) (line : List ℕ) : Type 0 where
  pub accepted : line_number m d v q memory (length line) ≡ 0
  pub colours : line_after m d v q memory line ≡ sheet_line s sheet q

-- Beside demand 3 (02, i): so at every panel line, given playing's six values and the memory it left
abbrev pub Demand3Line : Type 0
Demand3Line =
    (t : Task) (buffer memory line : List ℕ) (q : ℕ) → InBytes t → AllBelow 256 memory → length memory ≡ memory_size
    → (compiling memory_size t (length buffer)).number ≡ 0
    → q < (screen_in t).height → length line ≡ (screen_in t).width
    → LineShown memory_size (display_given t buffer) (playing memory_size (stream_given t buffer) memory).values
    (played memory_size (stream_given t buffer) memory) (screen_in t) (sheet_after memory_size t memory) q line

-- ---- the S1D13706
-- Demand 1 for it
pub record OlderDemand1 : Type 0 where
  pub compiled : (t : Task) (room : ℕ) → let r = older_compiling t room in Decided r.number r.place (older_rows t room)
  pub stream_kept : (t : Task) (old : List ℕ) → 0 < (older_compiling t (length old)).number → older_buffer t old ≡ old
  pub reads : (d : Display) (v : ScreenValues) (p q : ℕ) (memory : List ℕ)
      → let r = reading older_memory d v p q memory in Decided r.number r.place (read_rows older_memory d v p q (length memory))

-- the byte writes: the records of the stream in the length that compiling gave
abbrev pub writes_given : Task → List ℕ → List Record
writes_given t buffer = records_of (take (older_compiling t (length buffer)).length (older_buffer t buffer))

-- the six values, put together from the bytes that are written
abbrev pub values_given : Task → List ℕ → ScreenValues
values_given t buffer = older_values (bytes_in (writes_given t buffer))

abbrev pub older_display : Task → List ℕ → Display
older_display t buffer = display_by (older_compiling t (length buffer)) (screen_in t)

-- what demand 2 claims of it, from a screen record and a stream buffer on: the eighteen registers are written; the values are 01's six of
-- the screen; from them the chip's walk comes at each panel point to the pixel that the rotation names; and the point reader tells the
-- truth about it in any memory of 81,920 bytes
pub record SetTruly (t : Task) (buffer : List ℕ) : Type 0 where
  pub registers : registers_in (writes_given t buffer) ≡ older_registers
  pub values : values_given t buffer ≡ values_of (screen_in t)
  pub shows : (p q : ℕ) → p < (screen_in t).width → q < (screen_in t).height
      → Shows older_memory (screen_in t).depth (looked_at (older_display t buffer) (values_given t buffer) p q) (shown_bit (screen_in t) p q)
  pub reads : (memory : List ℕ) → AllBelow 256 memory → length memory ≡ older_memory
      → (p q : ℕ) → p < (screen_in t).width → q < (screen_in t).height
      → LooksTruly older_memory (screen_in t) memory p q (reading older_memory (older_display t buffer) (values_given t buffer) p q memory)

-- Demand 2 for it: of every screen record that compiles
abbrev pub OlderDemand2 : Type 0
OlderDemand2 = (t : Task) (buffer : List ℕ) → (older_compiling t (length buffer)).number ≡ 0 → SetTruly t buffer

-- Beside it (02, i): every panel line of any memory of 81,920 bytes
abbrev pub OlderDemand2Line : Type 0
OlderDemand2Line =
    (t : Task) (buffer memory line : List ℕ) (q : ℕ) → AllBelow 256 memory
    → length memory ≡ older_memory → (older_compiling t (length buffer)).number ≡ 0
    → q < (screen_in t).height → length line ≡ (screen_in t).width
    → LineShown older_memory (older_display t buffer) (values_given t buffer) memory (screen_in t) memory q line
