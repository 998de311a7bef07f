-- The panel as a picture, in the portable formats: one byte for a point at depths 1 to 8, red, green and blue at depth 16. And one point
-- of it as a line of text.
use Rattle.std.specs.Prelude.{Result, Ok, Err, ℕ, ◌+◌, ◌-◌, ◌*◌, ◌/◌, ◌%◌, ◌^◌, min, List, [], ◌∷◌, ◌++◌, cond, eqb, get_or, replicate}
use Rattle.screen.specs.Screen.{memory_size}
use Rattle.screen.specs.declared.ScreenValues.{ScreenValues}
use Rattle.reader.specs.Line.{line_after}
use Rattle.reader.specs.declared.Display.{Display}
use Rattle.refusal.specs.Number.{number}
use Rattle.refusal.specs.declared.Refusal.{Refusal}
use Rattle.reader.specs.declared.Point.{Point}
use Rattle.text.specs.Text.{letters, decimal}
use Rattle.text.specs.Refusal.{refusal_line}
use Rattle.text.specs.Lines.{point_line}

-- the highest value in the picture
abbrev pub highest : ℕ → ℕ
highest depth = 2 ^ min depth 8 - 1

-- the picture's kind: grey, or at depth 16 in colours
unfoldable pub picture_kind : ℕ → List ℕ
picture_kind depth = cond (eqb depth 16) (letters "P6\n") (letters "P5\n")

-- the first lines of the picture: its kind, its width and height, its highest value
unfoldable pub picture_head : Display → List ℕ
picture_head d =
    picture_kind d.depth ++ decimal d.width ++ letters " " ++ decimal d.height ++ letters "\n"
    ++ decimal (highest d.depth) ++ letters "\n"

-- bytes of a pixel
unfoldable pub pixel_size : ℕ → ℕ
pixel_size depth = cond (eqb depth 16) 3 1

-- five or six bits widened to eight: the highest bits again in the place of the missing ones
abbrev pub from_five : ℕ → ℕ
from_five x = 8 * x + x / 4

abbrev pub from_six : ℕ → ℕ
from_six x = 4 * x + x / 16

-- a colour's bytes: at depth 16 red from its five highest bits, green from the six below, blue from the five lowest
unfoldable pub pixel_bytes : ℕ → ℕ → List ℕ
pixel_bytes depth c =
    cond (eqb depth 16) (from_five (c / 2048 % 32) ∷ from_six (c / 32 % 64) ∷ from_five (c % 32) ∷ []) (c % 256 ∷ [])

-- the colours of panel line q: what the line reader leaves in a line of zeros, and so 0 where it refuses
unfoldable pub line_colours : Display → ScreenValues → ℕ → List ℕ → List ℕ
line_colours d values q memory = line_after memory_size d values q memory (replicate d.width 0)

-- the bytes of panel point (p, q)
unfoldable pub point_bytes : Display → ScreenValues → ℕ → List ℕ → ℕ → List ℕ
point_bytes d values q memory p = pixel_bytes d.depth (get_or (line_colours d values q memory) p 0)

-- points of a line of the panel that have room
abbrev pub pixels_in : Display → ℕ → ℕ
pixels_in d room = min d.width (room / pixel_size d.depth)

-- the line of the point reader's answer: the point's, or its refusal's, whose place is 0
unfoldable pub answer_line : Result Point Refusal → List ℕ
answer_line (Ok p) = point_line p.colour p.address p.bit
answer_line (Err r) = refusal_line (number r) 0
