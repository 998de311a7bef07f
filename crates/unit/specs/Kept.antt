-- Drawing stays inside the shown part (02, c): what it leaves alone.
use Rattle.std.specs.Prelude.{ℕ, ◌-◌, ◌%◌, ◌≤◌, ◌≡◌, Bool, true, false, not, ◌&&◌, List, [], ◌∷◌, length, leb, ltb}
use Rattle.record.specs.Bytes.{byte_at}
use Rattle.record.specs.Lists.{AllBelow}
use Rattle.record.specs.Checks.{first_of}
use Rattle.screen.specs.Image.{line_bytes}
use Rattle.screen.specs.Screen.{memory_size, fields_of, screen_rows}
use Rattle.screen.specs.declared.Image.{Image}
use Rattle.screen.specs.declared.Screen.{Screen}
use Rattle.command.specs.Command.{command_of, surface_of, refusal}
use Rattle.command.specs.Task.{Task, screen_in, commands_in}
use Rattle.compiler.specs.Compile.{compiling}
use Rattle.chip.specs.Play.{played}
use Rattle.unit.specs.Sheet.{sheet_line, sheet_command}
use Rattle.unit.specs.Demands.{InBytes, stream_given}

-- the byte at an address stands on one of an image's lines, in a shown pixel
unfoldable pub is_shown : ℕ → Image → ℕ → Bool
is_shown depth i a =
    leb i.base a && (ltb (sheet_line i a) i.height && ltb ((a - i.base) % i.line) (line_bytes depth i.width))

-- or between the image's shown width and its line length
unfoldable pub in_gap : ℕ → Image → ℕ → Bool
in_gap depth i a =
    leb i.base a && (ltb (sheet_line i a) i.height && leb (line_bytes depth i.width) ((a - i.base) % i.line))

-- a command that is not refused, on an accepted screen of depth 8 or 16
pub record Fit (screen : List ℕ) (left : ℕ) (command : List ℕ) : Type 0 where
  pub accepted : first_of (screen_rows memory_size screen) ≡ 0
  pub deep : 8 ≤ (fields_of screen).depth
  pub not_refused : refusal memory_size (fields_of screen) left command ≡ 0

-- the byte at an address is a shown one of no surface that the commands draw on
unfoldable pub outside : Screen → List (List ℕ) → ℕ → Bool
outside s [] a = true
outside s (b ∷ bs) a = not (is_shown s.depth (surface_of s (command_of b)) a) && outside s bs a

pub record Kept : Type 0 where
  -- on the sheet a command changes no byte but its surface's shown ones
  pub command : (screen : List ℕ) (left : ℕ) (b words sheet : List ℕ) (a : ℕ) → Fit screen left b
      → let s = fields_of screen in is_shown s.depth (surface_of s (command_of b)) a ≡ false
      → byte_at (sheet_command s (command_of b) words sheet) a ≡ byte_at sheet a
  -- so none between its surface's shown width and line length, where the other surface may lie
  pub gap : (screen : List ℕ) (left : ℕ) (b words sheet : List ℕ) (a : ℕ) → Fit screen left b
      → let s = fields_of screen in in_gap s.depth (surface_of s (command_of b)) a ≡ true
      → byte_at (sheet_command s (command_of b) words sheet) a ≡ byte_at sheet a
  -- nor does a whole list, compiled and played, change a byte that is a shown one of none of its surfaces
  pub list : (t : Task) (buffer memory : List ℕ) (a : ℕ) → InBytes t → AllBelow 256 memory
      → length memory ≡ memory_size → (compiling memory_size t (length buffer)).number ≡ 0
      → outside (screen_in t) (commands_in t) a ≡ true
      → byte_at (played memory_size (stream_given t buffer) memory) a ≡ byte_at memory a
