-- The plain sheet (01, "The plain sheet"; 02, h). It is fed the screen, the list and the host words, and knows no register or direction.
use Rattle.std.specs.Prelude.{ℕ, ◌+◌, ◌-◌, ◌*◌, ◌/◌, ◌%◌, ◌^◌, List, [], ◌∷◌, Bool, ◌&&◌, cond, length, get_or, take, drop, leb, ltb, eqb}
use Rattle.record.specs.Bytes.{byte_at}
use Rattle.record.specs.Lists.{tabulate}
use Rattle.pixel.specs.Pixel.{byte_of}
use Rattle.pixel.specs.Raster.{raster}
use Rattle.screen.specs.Image.{line_bytes}
use Rattle.screen.specs.declared.Image.{Image}
use Rattle.screen.specs.declared.Screen.{Screen}
use Rattle.view.specs.View.{Pixel, pixel_at, among, of_shown}
use Rattle.command.specs.Command.{command_of, by_operation, surface_of, line_words, words_taken}
use Rattle.command.specs.Task.{Task, screen_in, commands_in, is_accepted}
use Rattle.command.specs.declared.Command.{Command}

-- pixel n of a byte's 8 ÷ depth pixels, each a number of depth bits, left to right from its highest bits
abbrev pub from_left : ℕ → ℕ → ℕ → ℕ
from_left depth byte n = byte / 2 ^ (8 - (n + 1) * depth) % 2 ^ depth

-- the address of an image's pixel; below depth 8 it is cut off
abbrev pub sheet_address : ℕ → Image → Pixel → ℕ
sheet_address depth i x = i.base + x.v * i.line + x.u * depth / 8

-- the place of its highest bit in that byte (02, e): below depth 8, after the byte's pixels to its left; at depth 8 and 16 it is 7
unfoldable pub sheet_bit : ℕ → Pixel → ℕ
sheet_bit depth x = cond (ltb depth 8) (7 - x.u % (8 / depth) * depth) 7

-- an image's pixel: at depth 8 the byte at its address; at 16 that plus 256 times the next; below 8 the address is cut off
unfoldable pub sheet_pixel : ℕ → Image → List ℕ → Pixel → ℕ
sheet_pixel depth i sheet x =
    let a = sheet_address depth i x in
    cond (eqb depth 16) (byte_at sheet a + 256 * byte_at sheet (a + 1))
    (cond (eqb depth 8) (byte_at sheet a)
    (from_left depth (byte_at sheet a) (x.u % (8 / depth))))

-- pixel i of line j of a write's host words: word i at depth 16; at 8 word i ÷ 2, low byte for even i, high for odd
unfoldable pub host_pixel : ℕ → ℕ → List ℕ → ℕ → ℕ → ℕ
host_pixel depth width words i j =
    let line = j * line_words depth width in
    cond (eqb depth 16) (get_or words (line + i) 0)
    (cond (eqb (i % 2) 0) (get_or words (line + i / 2) 0 % 256) (get_or words (line + i / 2) 0 / 256))

-- a pattern: 8 by 8 pixels, "taken as rows of pixels" from its address on (02, h)
abbrev pub pattern_image : ℕ → Command → Image
pattern_image depth c = record { base = c.pattern; line = line_bytes depth 8; width = 8; height = 8 }

-- "the pixel that the pattern held just before the command in column (pattern x + i) mod 8, row (pattern y + j) mod 8" (02, h)
unfoldable pub pattern_pixel : ℕ → Command → List ℕ → ℕ → ℕ → ℕ
pattern_pixel depth c old i j = sheet_pixel depth (pattern_image depth c) old (pixel_at ((c.px + i) % 8) ((c.py + j) % 8))

-- s for pixel (i, j) of a command's rectangle: a fill's colour, what a move's source held just before, a write's host pixel, what the pattern
-- held just before; "5 takes s as a move does" (02, h)
unfoldable pub sheet_source : Screen → Command → List ℕ → List ℕ → ℕ → ℕ → ℕ
sheet_source s c words old i j =
    let move = sheet_pixel s.depth (surface_of s c) old (pixel_at (c.sx + i) (c.sy + j)) in
    let write = host_pixel s.depth c.width words i j in
    let pattern = pattern_pixel s.depth c old i j in
    by_operation c.operation c.colour move write pattern pattern move

-- s, or d kept where s is the key (02, h)
abbrev pub unless_key : ℕ → ℕ → ℕ → ℕ
unless_key key source d = cond (eqb source key) d source

-- what s and d make: a fill keeps s, a move and a write combine the two under the raster code; "3 combines s and d under the raster code, and
-- 4 and 5 store s, or keep d where s is the key" (02, h)
unfoldable pub sheet_mix : Screen → Command → ℕ → ℕ → ℕ
sheet_mix s c source d =
    let coded = raster s.depth c.raster source d in
    let keyed = unless_key c.key source d in
    by_operation c.operation source coded coded coded keyed keyed

-- what pixel (i, j) becomes, from what the sheet held just before
unfoldable pub new_pixel : Screen → Command → List ℕ → List ℕ → ℕ → ℕ → ℕ
new_pixel s c words old i j =
    sheet_mix s c (sheet_source s c words old i j) (sheet_pixel s.depth (surface_of s c) old (pixel_at (c.x + i) (c.y + j)))

-- the byte at an address is byte `lane` of a surface's pixel
abbrev pub sheet_line : Image → ℕ → ℕ
sheet_line i a = (a - i.base) / i.line

abbrev pub sheet_column : ℕ → Image → ℕ → ℕ
sheet_column depth i a = (a - i.base) % i.line / (depth / 8)

abbrev pub sheet_lane : ℕ → Image → ℕ → ℕ
sheet_lane depth i a = (a - i.base) % i.line % (depth / 8)

-- the command changes the byte at an address
unfoldable pub changes : Screen → Command → ℕ → Bool
changes s c a =
    let surface = surface_of s c in
    leb surface.base a
    && (among c.x c.width (sheet_column s.depth surface a) && among c.y c.height (sheet_line surface a))

-- the byte at an address after a command; all other bytes stay
unfoldable pub sheet_byte : Screen → Command → List ℕ → List ℕ → ℕ → ℕ
sheet_byte s c words old a =
    let surface = surface_of s c in
    cond (changes s c a)
    (byte_of (sheet_lane s.depth surface a)
    (new_pixel s c words old (sheet_column s.depth surface a - c.x) (sheet_line surface a - c.y)))
    (byte_at old a)

-- a command changes all its pixels at once
unfoldable pub sheet_command : Screen → Command → List ℕ → List ℕ → List ℕ
sheet_command s c words old = tabulate (length old) (sheet_byte s c words old)

-- commands go in list order, and take the host words in order
unfoldable pub sheet_commands : Screen → List (List ℕ) → List ℕ → List ℕ → List ℕ
sheet_commands s [] words old = old
sheet_commands s (b ∷ bs) words old =
    let n = words_taken s (command_of b) in
    sheet_commands s bs (drop n words) (sheet_command s (command_of b) (take n words) old)

-- the sheet after a task's whole list; a refused list changes nothing
unfoldable pub sheet_after : ℕ → Task → List ℕ → List ℕ
sheet_after m t old = cond (is_accepted m t) (sheet_commands (screen_in t) (commands_in t) t.words old) old

-- what the sheet shows at panel point (p, q)
unfoldable pub sheet_shows : Screen → List ℕ → ℕ → ℕ → ℕ
sheet_shows s sheet p q = of_shown (λ i x. sheet_pixel s.depth i sheet x) s p q

-- the byte that the pixel shown there stands in, and the place of its highest bit in it (02, e)
unfoldable pub shown_address : Screen → ℕ → ℕ → ℕ
shown_address s p q = of_shown (sheet_address s.depth) s p q

unfoldable pub shown_place : Screen → ℕ → ℕ → ℕ
shown_place s p q = of_shown (λ i x. sheet_bit s.depth x) s p q
