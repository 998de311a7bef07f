-- The wear strip (02, f): the commands and host words that draw the last hours on the main image, and the newest number below them.
use Rattle.std.specs.Prelude.{Result, Ok, Err, ℕ, suc, ◌+◌, ◌-◌, ◌*◌, ◌/◌, ◌%◌, Bool, true, not, ◌&&◌, ◌||◌, cond, List, [], ◌∷◌, ◌++◌, length, leb, ltb, eqb}
use Rattle.record.specs.Bytes.{over}
use Rattle.record.specs.Lists.{tabulate}
use Rattle.record.specs.Checks.{Row, row, first_of}
use Rattle.pixel.specs.Depth.{is_depth}
use Rattle.command.specs.Command.{command_bytes, line_words}
use Rattle.command.specs.declared.Command.{Command}
use Rattle.ring.specs.Kept.{heights_of}
use Rattle.ring.specs.declared.Ring.{Ring}
use Rattle.wear.specs.Font.{is_factory, glyph_of, glyph_bit, digits_of}
use Rattle.wear.specs.declared.Ask.{Ask}
use Rattle.refusal.specs.Number as refusals
use Rattle.refusal.specs.declared.Refusal.{Refusal}
use Rattle.wear.specs.declared.Made.{Made}

-- what a caller asks for
abbrev pub ask_with : ℕ → ℕ → ℕ → ℕ → ℕ → ℕ → ℕ → Ask
ask_with hours depth x y column bar background =
    record { hours = hours; depth = depth; x = x; y = y; column = column; bar = bar; background = background }

-- the newest number's digits in a ring with or without a sample: "The newest number, if any"
abbrev pub digits_in : ℕ → ℕ → List ℕ
digits_in any newest = cond (eqb any 0) [] (digits_of newest)

-- what a strip is made from: what the caller asks for, the heights of the hours from the left (0: no bar), the digits of the newest
-- number (none where there is no sample), the site font and the factory font
pub record Strip : Type 0 where
  pub ask : Ask
  pub heights : List ℕ
  pub digits : List ℕ
  pub site : List ℕ
  pub factory : List ℕ

abbrev pub strip_with : Ask → List ℕ → List ℕ → List ℕ → List ℕ → Strip
strip_with a heights digits site factory = record { ask = a; heights = heights; digits = digits; site = site; factory = factory }

-- the strip of a ring: "the last n hours .., oldest on the left, newest in the rightmost column"
abbrev pub strip_for : Ring → Ask → List ℕ → List ℕ → Strip
strip_for r a site factory = strip_with a (heights_of r a.hours) (digits_in r.any r.newest) site factory

-- lines of a column, and pixels of a glyph's width and height
abbrev pub column_height : ℕ
column_height = 100

abbrev pub glyph_size : ℕ
glyph_size = 8

-- a fill on the main image
abbrev pub fill_at : ℕ → ℕ → ℕ → ℕ → ℕ → Command
fill_at x y width height colour =
    record { operation = 0; surface = 0; raster = 0; x = x; y = y; width = width; height = height; sx = 0; sy = 0; colour = colour; key = 0; px = 0; py = 0; pattern = 0 }

-- a write of a glyph on the main image, "with code Ch"
abbrev pub glyph_at : ℕ → ℕ → Command
glyph_at x y =
    record { operation = 2; surface = 0; raster = 0xC; x = x; y = y; width = glyph_size; height = glyph_size; sx = 0; sy = 0; colour = 0; key = 0; px = 0; py = 0; pattern = 0 }

-- column c: "a background fill, then a bar as many lines high as the sample, on the lowest line; height 0 or a blank hour gives no bar"
unfoldable pub column : Ask → ℕ → ℕ → List Command
column a c height =
    fill_at (a.x + c * a.column) a.y a.column column_height a.background
    ∷ cond (eqb height 0) [] (fill_at (a.x + c * a.column) (a.y + column_height - height) a.column height a.bar ∷ [])

-- columns from column c on, from the left
unfoldable pub columns : Ask → ℕ → List ℕ → List Command
columns a c [] = []
columns a c (h ∷ hs) = column a c h ++ columns a (suc c) hs

-- "a write for each digit, left to right, .. just below the strip from its left edge, .. in touching 8 × 8 glyphs", from digit i on
unfoldable pub writes : Ask → ℕ → List ℕ → List Command
writes a i [] = []
writes a i (d ∷ ds) = glyph_at (a.x + i * glyph_size) (a.y + column_height) ∷ writes a (suc i) ds

-- the commands of the strip
unfoldable pub strip_commands : Strip → List Command
strip_commands t = columns t.ask 0 t.heights ++ writes t.ask 0 t.digits

-- their bytes
unfoldable pub list_bytes : List Command → List ℕ
list_bytes [] = []
list_bytes (c ∷ cs) = command_bytes c ++ list_bytes cs

abbrev pub strip_list : Strip → List ℕ
strip_list t = list_bytes (strip_commands t)

-- "1 bar, 0 background"
unfoldable pub glyph_colour : Ask → List ℕ → ℕ → ℕ → ℕ
glyph_colour a glyph i j = cond (eqb (glyph_bit glyph i j) 1) a.bar a.background

-- word k of a glyph's host words, as many a line as a write takes: a pixel at depth 16, two at depth 8, the left one in the low byte
unfoldable pub glyph_word : Ask → List ℕ → ℕ → ℕ
glyph_word a glyph k =
    let n = line_words a.depth glyph_size in
    cond (eqb a.depth 8)
    (glyph_colour a glyph (2 * (k % n)) (k / n) + 256 * glyph_colour a glyph (2 * (k % n) + 1) (k / n))
    (glyph_colour a glyph (k % n) (k / n))

unfoldable pub glyph_words : Ask → List ℕ → List ℕ
glyph_words a glyph = tabulate (glyph_size * line_words a.depth glyph_size) (glyph_word a glyph)

-- the host words of digits
unfoldable pub digit_words : Ask → List ℕ → List ℕ → List ℕ → List ℕ
digit_words a site factory [] = []
digit_words a site factory (d ∷ ds) = glyph_words a (glyph_of site factory d) ++ digit_words a site factory ds

abbrev pub strip_words : Strip → List ℕ
strip_words t = digit_words t.ask t.site t.factory t.digits

-- no command's x or y is past 65,535
unfoldable pub all_in_reach : List Command → Bool
all_in_reach [] = true
all_in_reach (c ∷ cs) = leb c.x 65535 && (leb c.y 65535 && all_in_reach cs)

-- "Checks, in order: depth 2, 11; colours 12; n, column width, factory font (digits drawn or not) .. 27", the factory font being of so many bytes
unfoldable pub ask_rows : Ask → ℕ → List Row
ask_rows a factory =
    row 2 (not (is_depth a.depth))
    ∷ row 11 (ltb a.depth 8)
    ∷ row 12 (eqb a.depth 8 && (ltb 255 a.bar || ltb 255 a.background))
    ∷ row 27 (not (leb 1 a.hours && leb a.hours 24))
    ∷ row 27 (not (leb 1 a.column && leb a.column 16))
    ∷ row 27 (not (is_factory factory))
    ∷ []

-- ".. or a command's x or y past 65,535, 27; a short list or word buffer 17": a list buffer of so many bytes, a word buffer of so many words
unfoldable pub strip_rows : Strip → ℕ → ℕ → List Row
strip_rows t room wordRoom =
    ask_rows t.ask (length t.factory)
    ++ (row 27 (not (all_in_reach (strip_commands t)))
    ∷ row 17 (ltb room (length (strip_list t)) || ltb wordRoom (length (strip_words t)))
    ∷ [])

-- "Both lengths (bytes, words) are given back, 0 if refused"
pub record Stripping : Type 0 where
  pub number : ℕ
  pub bytes : ℕ
  pub words : ℕ

unfoldable pub stripping : Strip → ℕ → ℕ → Stripping
stripping t room wordRoom =
    let n = first_of (strip_rows t room wordRoom) in
    cond (eqb n 0)
    (record { number = 0; bytes = length (strip_list t); words = length (strip_words t) })
    (record { number = n; bytes = 0; words = 0 })

-- a buffer afterwards: "a buffer keeps what lies past its result"; on refusal what it held
abbrev pub buffer_with : Stripping → List ℕ → List ℕ → List ℕ
buffer_with r new old = cond (eqb r.number 0) (over new old) old

-- the list buffer and the word buffer afterwards
unfoldable pub list_after : Strip → List ℕ → List ℕ → List ℕ
list_after t list words = buffer_with (stripping t (length list) (length words)) (strip_list t) list

unfoldable pub words_after : Strip → List ℕ → List ℕ → List ℕ
words_after t list words = buffer_with (stripping t (length list) (length words)) (strip_words t) words

-- the numbers of an answer, whose refusals have these numbers: of a refusal both lengths are 0
unfoldable pub stripping_by : {E : Type 0} → (E → ℕ) → Result Made E → Stripping
stripping_by number_in (Ok m) = record { number = 0; bytes = m.bytes; words = m.words }
stripping_by number_in (Err r) = record { number = number_in r; bytes = 0; words = 0 }

-- 01's numbers of an answer
abbrev pub stripping_of : Result Made Refusal → Stripping
stripping_of a = stripping_by refusals.number a

-- the answer with these numbers
unfoldable pub answer_of : Stripping → Result Made Refusal
answer_of s = refusals.answered s.number (record { bytes = s.bytes; words = s.words })
