-- Cases on eight bytes, by computation: 01's B2 and B3, on the line 1 2 3 4 5 6 7 8 a move of seven bytes by one to the right
-- and to the left under code Ch, and what the wrong direction makes of each; writes of two lines, and of words, at both depths; key colours;
-- and patterns, on more bytes.
use mathlib.Core.Path.{◌≡◌, refl, sym, ap}
use mathlib.Core.Bool.{Bool, true, false, true≢false}
use mathlib.Core.List.{List, [], ◌∷◌, map}
use Prim.Native.Nat.{ℕ, ◌≤◌}
use native.Mathlib.Nat.{mod-one}
use native.Mathlib.Omega.{arith}
use lib.ListN.{take, drop}
use Rattle.record.specs.Lists.{tabulate}
use Rattle.pixel.specs.Pixel.{get_pixel, put_pixel, byte_of}
use Rattle.pixel.specs.Raster.{bitwise, raster}
use Rattle.blit.specs.Blit.{Blit, given, memory, positive, negative, pixels, chip_line, chip_lines, chip_blit, direction_of, from_last, starting}
use Rattle.blit.specs.Rectangle.{inside, painted_pixel, painted_byte, painted}
use Rattle.blit.specs.Words.{word_pixel, host_pixel, chip_word, chip_words, word_bytes}
use Rattle.blit.specs.Job.{mix_of, pattern_pixel, blit_of, performed, LineIn, SourceIn, JobOk}
use Rattle.blit.specs.Line.{rank, lagged, work_line, copies, straight_line, copied}
use Rattle.blit.specs.declared.Mix.{Mix}
use Rattle.blit.specs.declared.Mix.TheVariants.{Store, Raster, Key}
use Rattle.blit.specs.declared.From.{From}
use Rattle.blit.specs.declared.From.TheVariants.{Colour, Memory, Pattern}
use Rattle.blit.specs.declared.Job.{Job}

abbrev pub line8 : List ℕ
line8 = 1 ∷ 2 ∷ 3 ∷ 4 ∷ 5 ∷ 6 ∷ 7 ∷ 8 ∷ []

abbrev pub move_of : ℕ → ℕ → Blit
move_of source destination =
    record { bytes = 1; line = 8; width = 7; height = 1; combine = raster 8 12; source = memory source; destination = destination }

-- as the pointwise account has it
pub painted_cases : (painted (move_of 0 1) line8 ≡ 1 ∷ 1 ∷ 2 ∷ 3 ∷ 4 ∷ 5 ∷ 6 ∷ 7 ∷ [])
    × (painted (move_of 1 0) line8 ≡ 2 ∷ 3 ∷ 4 ∷ 5 ∷ 6 ∷ 7 ∷ 8 ∷ 8 ∷ [])
unfolding get_pixel byte_of bitwise inside painted_pixel painted_byte painted
painted_cases = (refl, refl)

-- as the chip draws them: B2 downwards from addresses 6 and 7, B3 upwards
pub chip_cases : (direction_of 1 0 ≡ negative) × (from_last (move_of 0 1) ≡ move_of 6 7) × (direction_of 0 1 ≡ positive)
    × (chip_blit (starting (direction_of 1 0) (move_of 0 1)) (direction_of 1 0) line8 ≡ 1 ∷ 1 ∷ 2 ∷ 3 ∷ 4 ∷ 5 ∷ 6 ∷ 7 ∷ [])
    × (chip_blit (starting (direction_of 0 1) (move_of 1 0)) (direction_of 0 1) line8 ≡ 2 ∷ 3 ∷ 4 ∷ 5 ∷ 6 ∷ 7 ∷ 8 ∷ 8 ∷ [])
unfolding get_pixel put_pixel bitwise pixels chip_line chip_lines chip_blit
chip_cases = (refl, refl, refl, refl, refl)

-- in the wrong direction one pixel smears over the line
pub smear_cases : (chip_blit (move_of 0 1) positive line8 ≡ 1 ∷ 1 ∷ 1 ∷ 1 ∷ 1 ∷ 1 ∷ 1 ∷ 1 ∷ [])
    × (chip_blit (from_last (move_of 1 0)) negative line8 ≡ 8 ∷ 8 ∷ 8 ∷ 8 ∷ 8 ∷ 8 ∷ 8 ∷ 8 ∷ [])
unfolding get_pixel put_pixel bitwise pixels chip_line chip_lines chip_blit
smear_cases = (refl, refl)

-- a write of two lines, the second four bytes on
abbrev pub write_of : ℕ → ℕ → List ℕ → Blit
write_of bytes width words =
    record
    { bytes = bytes; line = 4; width = width; height = 2; combine = λ s d. s; source = given (host_pixel bytes width words); destination = 0 }

-- lines of three bytes take two words each: the low byte first, and the fourth byte is ignored
pub odd_lines : chip_blit (write_of 1 3 (0x0B0A ∷ 0x0D0C ∷ 0x2120 ∷ 0x2322 ∷ [])) positive line8
    ≡ 0xA ∷ 0xB ∷ 0xC ∷ 4 ∷ 0x20 ∷ 0x21 ∷ 0x22 ∷ 8 ∷ []
unfolding get_pixel put_pixel pixels chip_line chip_lines chip_blit word_pixel host_pixel
odd_lines = refl

-- a line of one pixel of two bytes takes one word
pub wide_lines : chip_blit (write_of 2 1 (0x0B0A ∷ 0x2120 ∷ [])) positive line8 ≡ 0xA ∷ 0xB ∷ 3 ∷ 4 ∷ 0x20 ∷ 0x21 ∷ 7 ∷ 8 ∷ []
unfolding get_pixel put_pixel pixels chip_line chip_lines chip_blit word_pixel host_pixel
wide_lines = refl

-- the second word of line 1 draws one pixel, at address 6
pub odd_word : chip_word (write_of 1 3 []) 1 1 0x2322 line8 ≡ 1 ∷ 2 ∷ 3 ∷ 4 ∷ 5 ∷ 6 ∷ 0x22 ∷ 8 ∷ []
unfolding get_pixel put_pixel pixels word_pixel chip_word
odd_word = refl

-- the words of a line one after another: all of line 1, its fourth byte ignored; its last word alone; two words from the middle of a
-- line on, and up to its end; and at two bytes to a pixel all of line 1, and two words from the middle of a line on
pub word_runs : (chip_words (write_of 1 3 []) 1 0 (0x0B0A ∷ 0x0D0C ∷ []) line8 ≡ 1 ∷ 2 ∷ 3 ∷ 4 ∷ 0xA ∷ 0xB ∷ 0xC ∷ 8 ∷ [])
    × (chip_words (write_of 1 3 []) 1 1 (0x0D0C ∷ []) line8 ≡ 1 ∷ 2 ∷ 3 ∷ 4 ∷ 5 ∷ 6 ∷ 0xC ∷ 8 ∷ [])
    × (chip_words (write_of 1 7 []) 0 1 (0x0B0A ∷ 0x0D0C ∷ []) line8 ≡ 1 ∷ 2 ∷ 0xA ∷ 0xB ∷ 0xC ∷ 0xD ∷ 7 ∷ 8 ∷ [])
    × (chip_words (write_of 1 7 []) 0 2 (0x0B0A ∷ 0x0D0C ∷ []) line8 ≡ 1 ∷ 2 ∷ 3 ∷ 4 ∷ 0xA ∷ 0xB ∷ 0xC ∷ 8 ∷ [])
    × (chip_words (write_of 2 2 []) 1 0 (0x0B0A ∷ 0x0D0C ∷ []) line8 ≡ 1 ∷ 2 ∷ 3 ∷ 4 ∷ 0xA ∷ 0xB ∷ 0xC ∷ 0xD ∷ [])
    × (chip_words (write_of 2 4 []) 0 1 (0x0B0A ∷ 0x0D0C ∷ []) line8 ≡ 1 ∷ 2 ∷ 0xA ∷ 0xB ∷ 0xC ∷ 0xD ∷ 7 ∷ 8 ∷ [])
unfolding get_pixel put_pixel pixels word_pixel chip_word chip_words
word_runs = (refl, refl, refl, refl, refl, refl)

-- the bytes of two words, in the order of the pixels
pub word_bytes_lem : word_bytes (0x0B0A ∷ 0x0D0C ∷ []) ≡ 0xA ∷ 0xB ∷ 0xC ∷ 0xD ∷ []
unfolding word_bytes
word_bytes_lem = refl

-- lines of the line functions: bytes copied, pixels stored side by side, a line drawn without smear, smeared upwards and downwards
-- where its source is its own pixel before, exclusive or of a wide pixel, and wide pixels of which the first is the key colour and the second
-- has the key's low byte
pub line_cases_lem : (copied (1 ∷ 2 ∷ 3 ∷ []) 1 2 (9 ∷ 9 ∷ 9 ∷ []) ≡ 2 ∷ 3 ∷ 9 ∷ [])
    × (straight_line 2 (λ s d. s) (λ i. 0x1234) 1 (9 ∷ 9 ∷ 9 ∷ 9 ∷ []) ≡ 0x34 ∷ 0x12 ∷ 9 ∷ 9 ∷ [])
    × (work_line true 2 2 (Raster 0xC) (5 ∷ 6 ∷ 7 ∷ 8 ∷ []) 2 2 (1 ∷ 2 ∷ 3 ∷ 4 ∷ []) ≡ 5 ∷ 6 ∷ 7 ∷ 8 ∷ [])
    × (work_line false 1 3 Store (5 ∷ 6 ∷ 7 ∷ []) 1 3 (1 ∷ 2 ∷ 3 ∷ []) ≡ 5 ∷ 5 ∷ 5 ∷ [])
    × (work_line true 1 3 (Raster 0xC) (5 ∷ 6 ∷ 7 ∷ []) 1 3 (1 ∷ 2 ∷ 3 ∷ []) ≡ 7 ∷ 7 ∷ 7 ∷ [])
    × (work_line false 2 1 (Raster 6) (0xFF ∷ 0x0F ∷ []) 1 1 (0x0F ∷ 0xFF ∷ []) ≡ 0xF0 ∷ 0xF0 ∷ [])
    × (work_line false 2 2 (Key 0x605) (5 ∷ 6 ∷ 5 ∷ 7 ∷ []) 2 2 (1 ∷ 2 ∷ 3 ∷ 4 ∷ []) ≡ 1 ∷ 2 ∷ 5 ∷ 7 ∷ [])
unfolding get_pixel put_pixel bitwise pixels rank lagged work_line straight_line copied
line_cases_lem = (refl, refl, refl, refl, refl, refl, refl)

-- ---- jobs on eight bytes: two lines of three pixels, four bytes apart

abbrev job_at : Bool → Mix → From → ℕ → Job
job_at down mix from destination =
    record { down = down; bytes = 1; line = 4; width = 3; height = 2; mix = mix; from = from; destination = destination }

-- a colour under exclusive or, a move by one byte down and up through the memory, and one that smears
pub job_cases : (performed (job_at false (Raster 6) (Colour 0xF) 0) line8 ≡ 0xE ∷ 0xD ∷ 0xC ∷ 4 ∷ 0xA ∷ 9 ∷ 8 ∷ 8 ∷ [])
    × (performed (job_at false Store (Memory 1) 0) line8 ≡ 2 ∷ 3 ∷ 4 ∷ 4 ∷ 6 ∷ 7 ∷ 8 ∷ 8 ∷ [])
    × (performed (job_at true Store (Memory 6) 7) line8 ≡ 1 ∷ 1 ∷ 2 ∷ 3 ∷ 5 ∷ 5 ∷ 6 ∷ 7 ∷ [])
    × (performed (job_at false Store (Memory 0) 1) line8 ≡ 1 ∷ 1 ∷ 1 ∷ 1 ∷ 5 ∷ 5 ∷ 5 ∷ 5 ∷ [])
unfolding get_pixel put_pixel bitwise pixels chip_line chip_lines chip_blit blit_of
job_cases = (refl, refl, refl, refl)

-- which mixes store the source
pub copy_cases : map copies (Store ∷ Raster 0xC ∷ Raster 3 ∷ Raster 0xD ∷ Key 0 ∷ []) ≡ true ∷ true ∷ false ∷ false ∷ false ∷ []
copy_cases = refl

-- with a key colour: the destination pixel where the source pixel is the key, else the source pixel, be the destination pixel the key or not
pub key_cases : (map (λ s. mix_of (Key 5) 1 s 9) (4 ∷ 5 ∷ 9 ∷ []) ≡ 4 ∷ 9 ∷ 9 ∷ [])
    × (map (λ s. mix_of (Key 5) 1 s 5) (4 ∷ 5 ∷ []) ≡ 4 ∷ 5 ∷ [])
    × (mix_of (Key 0x105) 2 5 9 ≡ 5)
key_cases = (refl, refl, refl)

-- transparent moves: by one byte down through the memory, where the first pixel's source is the key; and by one byte up, in the direction that
-- smears: the first pixel is kept and smears over its line, and the second line's first source pixel over the other
pub transparent_cases : (performed (job_at false (Key 2) (Memory 1) 0) line8 ≡ 1 ∷ 3 ∷ 4 ∷ 4 ∷ 6 ∷ 7 ∷ 8 ∷ 8 ∷ [])
    × (performed (job_at false (Key 1) (Memory 0) 1) line8 ≡ 1 ∷ 2 ∷ 2 ∷ 2 ∷ 5 ∷ 5 ∷ 5 ∷ 5 ∷ [])
unfolding get_pixel put_pixel pixels chip_line chip_lines chip_blit blit_of
transparent_cases = (refl, refl)

-- ---- patterns, on a memory whose bytes count up from 0

abbrev counted : ℕ → List ℕ
counted n = tabulate n (λ k. k)

-- column 9 of line 10 is column 1 of line 2
pub pattern_cases_lem : (pattern_pixel 1 (counted 67) 3 9 10 ≡ 20) × (pattern_pixel 1 (counted 67) 3 1 2 ≡ 20) × (pattern_pixel 2 (counted 132) 4 9 10 ≡ 0x2726)
unfolding get_pixel pattern_pixel
pattern_cases_lem = (refl, refl, refl)

-- a pattern at address 0, drawn from a column and a line of it on
abbrev hatch : ℕ → ℕ → ℕ → ℕ → ℕ → ℕ → ℕ → Job
hatch bytes x y line width height destination =
    record {
      down = false;
      bytes = bytes;
      line = line;
      width = width;
      height = height;
      mix = Store;
      from = Pattern 0 x y;
      destination = destination;
    }

-- nine columns and lines behind the pattern, from its column 3 and line 5 on: the first line, the fourth, which has the pattern's first line, and
-- the ninth, which is the first again
abbrev hatched : List ℕ
hatched = performed (hatch 1 3 5 9 9 9 64) (counted 145)

pub hatch_lines : (take 9 (drop 64 hatched) ≡ 43 ∷ 44 ∷ 45 ∷ 46 ∷ 47 ∷ 40 ∷ 41 ∷ 42 ∷ 43 ∷ [])
    × (take 9 (drop 91 hatched) ≡ 3 ∷ 4 ∷ 5 ∷ 6 ∷ 7 ∷ 0 ∷ 1 ∷ 2 ∷ 3 ∷ [])
    × (take 9 (drop 136 hatched) ≡ 43 ∷ 44 ∷ 45 ∷ 46 ∷ 47 ∷ 40 ∷ 41 ∷ 42 ∷ 43 ∷ [])
unfolding get_pixel put_pixel pixels chip_line chip_lines chip_blit pattern_pixel blit_of
hatch_lines = (refl, refl, refl)

-- two columns and lines of two bytes to a pixel, from the pattern's last pixel on
pub wide_hatch_lem : drop 128 (performed (hatch 2 7 7 4 2 2 128) (counted 136)) ≡ 126 ∷ 127 ∷ 112 ∷ 113 ∷ 14 ∷ 15 ∷ 0 ∷ 1 ∷ []
unfolding get_pixel put_pixel pixels chip_line chip_lines chip_blit pattern_pixel blit_of
wide_hatch_lem = refl

-- two lines over the pattern itself, from its column 1 and line 7 on: its pixels as they were before are drawn
pub own_hatch : take 16 (performed (hatch 1 1 7 8 8 2 0) (counted 64))
    ≡ 57 ∷ 58 ∷ 59 ∷ 60 ∷ 61 ∷ 62 ∷ 63 ∷ 56 ∷ 1 ∷ 2 ∷ 3 ∷ 4 ∷ 5 ∷ 6 ∷ 7 ∷ 0 ∷ []
unfolding get_pixel put_pixel pixels chip_line chip_lines chip_blit pattern_pixel blit_of
own_hatch = refl

-- ---- limits

-- the limits of such a job are those of its lines and of its source
limits : (m : ℕ) (down : Bool) (mix : Mix) (from : From) (destination : ℕ) → m ≤ 262144 → LineIn down 1 4 3 destination m 1 → SourceIn from mix down 1 4 3 m 1
    → JobOk m (job_at down mix from destination)
limits m down mix from destination few to source =
    record {
      some_bytes = omega arith;
      few_bytes = omega arith;
      line = omega arith;
      even_line = refl;
      width = omega arith;
      some_height = omega arith;
      height = omega arith;
      even = mod-one destination;
      memory = few;
      destination = to;
      source = source;
    }

-- jobs that reach the first and the last byte
pub jobs_inside : JobOk 8 (job_at false Store (Memory 1) 1) × JobOk 8 (job_at true Store (Memory 6) 7) × JobOk 8 (job_at false Store (Colour 9) 1)
    × JobOk 67 (job_at false (Raster 6) (Pattern 3 7 7) 1)
jobs_inside = (
  limits 8 false Store (Memory 1) 1 (omega arith) (omega arith) (omega arith, refl),
  limits 8 true Store (Memory 6) 7 (omega arith) (omega arith, omega arith) ((omega arith, omega arith), refl),
  limits 8 false Store (Colour 9) 1 (omega arith) (omega arith) (refl, refl),
  limits 67 false (Raster 6) (Pattern 3 7 7) 1 (omega arith) (omega arith) (refl, omega arith),
)

-- jobs that reach past them, a colour and a pattern that go down, and a colour that is not stored
pub jobs_outside : (JobOk 7 (job_at false Store (Colour 9) 1) → ⊥)
    × (JobOk 8 (job_at false Store (Memory 2) 1) → ⊥)
    × (JobOk 8 (job_at true Store (Memory 5) 7) → ⊥)
    × (JobOk 8 (job_at true Store (Memory 6) 8) → ⊥)
    × (JobOk 8 (job_at true Store (Colour 9) 7) → ⊥)
    × (JobOk 66 (job_at false (Raster 6) (Pattern 3 7 7) 1) → ⊥)
    × (JobOk 67 (job_at true (Raster 6) (Pattern 3 7 7) 7) → ⊥)
    × (JobOk 8 (job_at false (Raster 6) (Colour 9) 1) → ⊥)
jobs_outside = (
  (λ k. omega (arith, k.destination)),
  (λ k. omega (arith, k.source.0)),
  (λ k. omega (arith, k.source.0.0)),
  (λ k. omega (arith, k.destination.1)),
  (λ k. absurd (true≢false k.source.0)),
  (λ k. omega (arith, k.source.1)),
  (λ k. absurd (true≢false k.source.0)),
  (λ k. absurd (true≢false (sym (ap copies k.source.1)))),
)

-- at two bytes to a pixel a pattern takes 128 bytes
pub wide_pattern : SourceIn (Pattern 0 0 0) Store false 2 4 2 128 1 × (SourceIn (Pattern 0 0 0) Store false 2 4 2 127 1 → ⊥)
wide_pattern = ((refl, omega arith), λ k. omega (arith, k.1))
