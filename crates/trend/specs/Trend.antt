-- The wear strip on the panel (02, f): compiled, played and read back, each column is its hour's, the newest the rightmost, and each digit is
-- its glyph.
use Rattle.std.specs.Prelude.{ℕ, ◌+◌, ◌-◌, ◌*◌, ◌<◌, ◌≤◌, ◌≡◌, Bool, true, false, ◌&&◌, ◌||◌, cond, List, length, get_or, leb, eqb}
use Rattle.record.specs.Lists.{AllBelow}
use Rattle.record.specs.Checks.{first_of}
use Rattle.screen.specs.Screen.{memory_size, fields_of, screen_rows, main_image}
use Rattle.screen.specs.declared.Image.{Image}
use Rattle.screen.specs.declared.Screen.{Screen}
use Rattle.view.specs.View.{pixel_at, view_pixel, in_window, among}
use Rattle.reader.specs.Read.{reading}
use Rattle.chip.specs.Play.{playing, played}
use Rattle.command.specs.Command.{inside_image}
use Rattle.command.specs.Task.{short_form, Task, task}
use Rattle.compiler.specs.Compile.{compiling, stream_of}
use Rattle.unit.specs.Sheet.{sheet_pixel}
use Rattle.unit.specs.Demands.{stream_given, display_given}
use Rattle.ring.specs.Samples.{Sample, accepted, telling, AllSequences}
use Rattle.ring.specs.Kept.{hour_in}
use Rattle.ring.specs.declared.Ring.{Ring}
use Rattle.wear.specs.Font.{glyph_of, glyph_bit}
use Rattle.wear.specs.Strip.{Strip, strip_for, strip_list, strip_words, stripping, column_height, glyph_size}
use Rattle.wear.specs.Claims.{strip_after}
use Rattle.wear.specs.declared.Ask.{Ask}

-- an image holds columns and number
unfoldable pub holds : Image → Strip → Bool
holds i t =
    let a = t.ask in
    inside_image i a.x a.y (a.hours * a.column) column_height
    && (eqb (length t.digits) 0 || inside_image i a.x (a.y + column_height) (length t.digits * glyph_size) glyph_size)

-- a strip that is made, with list and word buffers of some sizes, for an accepted screen of its depth whose main image holds it
pub record Fits (screen : List ℕ) (t : Strip) : Type 0 where
  pub accepted : first_of (screen_rows memory_size screen) ≡ 0
  pub depth : (fields_of screen).depth ≡ t.ask.depth
  pub holds : holds (main_image (fields_of screen)) t ≡ true
  pub room : ℕ
  pub words : ℕ
  pub made : (stripping t room words).number ≡ 0

-- colours of 16 bits
pub record Colours (a : Ask) : Type 0 where
  pub bar : a.bar < 65536
  pub background : a.background < 65536

-- a screen, the strip's list, and exactly its words
abbrev pub task_with : List ℕ → Strip → Task
task_with screen t = task short_form screen (strip_list t) (strip_words t)

-- panel point (p, q) shows pixel (u, v) of the main image
pub record ShowsMain (s : Screen) (p q u v : ℕ) : Type 0 where
  pub column : p < s.width
  pub line : q < s.height
  pub pixel : view_pixel s.rotation s.width s.height p q ≡ pixel_at u v
  pub main : in_window s (pixel_at u v) ≡ false

-- the colour that the point reader gives at (p, q) once a task is compiled into a buffer and its stream played over a memory
abbrev pub colour_after : Task → List ℕ → List ℕ → ℕ → ℕ → ℕ
colour_after t buffer memory p q =
    let stream = stream_given t buffer in
    (reading memory_size (display_given t buffer) (playing memory_size stream memory).values p q (played memory_size stream memory)).colour

-- (u, v) is a pixel of the strip's columns, or of its number
unfoldable pub in_columns : Strip → ℕ → ℕ → Bool
in_columns t u v = let a = t.ask in among a.x (a.hours * a.column) u && among a.y column_height v

unfoldable pub in_number : Strip → ℕ → ℕ → Bool
in_number t u v = let a = t.ask in among a.x (length t.digits * glyph_size) u && among (a.y + column_height) glyph_size v

-- what is claimed of a strip, from the heights of its hours by age: it compiles, with any stream buffer that has room for it; at each panel
-- point that then shows main, pixel i of line l of column c from the left has bar or background colour by the hour of age n − 1 − c, digit d's
-- pixel (i, j) has bar colour exactly where bit 7 − i of byte j of its glyph is 1, and what is neither is as it was
pub record Shown (screen : List ℕ) (t : Strip) (height : ℕ → ℕ) : Type 0 where
  pub compiles : (room : ℕ) → length (stream_of (task_with screen t)) ≤ room → (compiling memory_size (task_with screen t) room).number ≡ 0
  pub columns : (buffer memory : List ℕ) → AllBelow 256 memory → length memory ≡ memory_size → length (stream_of (task_with screen t)) ≤ length buffer
      → let a = t.ask in (c i l p q : ℕ) → c < a.hours → i < a.column → l < column_height
      → ShowsMain (fields_of screen) p q (a.x + c * a.column + i) (a.y + l)
      → colour_after (task_with screen t) buffer memory p q ≡ cond (leb column_height (l + height (a.hours - 1 - c))) a.bar a.background
  pub digits : (buffer memory : List ℕ) → AllBelow 256 memory → length memory ≡ memory_size → length (stream_of (task_with screen t)) ≤ length buffer
      → let a = t.ask in (d i j p q : ℕ) → d < length t.digits → i < glyph_size → j < glyph_size
      → ShowsMain (fields_of screen) p q (a.x + d * glyph_size + i) (a.y + column_height + j)
      → colour_after (task_with screen t) buffer memory p q
      ≡ cond (eqb (glyph_bit (glyph_of t.site t.factory (get_or t.digits d 0)) i j) 1) a.bar a.background
  pub others : (buffer memory : List ℕ) → AllBelow 256 memory → length memory ≡ memory_size → length (stream_of (task_with screen t)) ≤ length buffer
      → (p q u v : ℕ) → ShowsMain (fields_of screen) p q u v → in_columns t u v ≡ false → in_number t u v ≡ false
      → colour_after (task_with screen t) buffer memory p q
      ≡ sheet_pixel (fields_of screen).depth (main_image (fields_of screen)) memory (pixel_at u v)

-- of any ring
abbrev pub RingShown : Type 0
RingShown =
    (screen : List ℕ) (r : Ring) (a : Ask) (site factory : List ℕ) → AllBelow 256 screen → Colours a
    → let t = strip_for r a site factory in Fits screen t → Shown screen t (λ age. (hour_in r age).height)

-- of samples that came to an empty ring: by the accepted ones alone
abbrev pub TrendShown : Type 0
TrendShown =
    (screen : List ℕ) (came : List Sample) (a : Ask) (site factory : List ℕ) → AllBelow 256 screen → AllSequences came → Colours a
    → let t = strip_after came a site factory in Fits screen t → Shown screen t (λ age. (telling (accepted came) age).height)
