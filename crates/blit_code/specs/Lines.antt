-- Where the lines of a rectangle stand, as the private functions of this crate count them. Nothing of 01 cites it.
use Rattle.std.specs.Prelude.{ℕ, ◌+◌, ◌-◌, ◌*◌, ◌/◌, ◌%◌, ◌≤◌, List, Bool, true, false, cond, ltb}
use Rattle.pixel.specs.Pixel.{get_pixel}

-- from which pixel on a move's source is a pixel that its own line has stored: s and d are the low ends of the two lines
unfoldable pub lag_of : Bool → ℕ → ℕ → ℕ → ℕ → ℕ
lag_of false bytes width s d = cond (ltb s d) ((d - s) / bytes) width
lag_of true bytes width s d = cond (ltb d s) ((s - d) / bytes) width

-- the low end of line j of a rectangle that is drawn from address a
unfoldable pub low_end : Bool → ℕ → ℕ → ℕ → ℕ → ℕ → ℕ
low_end false bytes line width a j = a + j * line
low_end true bytes line width a j = a + bytes - (j * line + width * bytes)

-- drawn downwards, line j does not run below address 0
abbrev pub AboveZero : Bool → ℕ → ℕ → ℕ → ℕ → ℕ → Type 0
AboveZero false bytes line width a j = Unit {0}
AboveZero true bytes line width a j = j * line + width * bytes ≤ a + bytes

-- pixel i of line k, from eight source lines side by side, each of 2048 bytes
unfoldable pub lines_pixel : ℕ → List ℕ → ℕ → ℕ → ℕ
lines_pixel bytes lines i k = get_pixel bytes lines (k % 8 * 2048 + i * bytes)
