-- A blit as the code is given it, and the limits that the checks above have shown.
use Rattle.std.specs.Prelude.{ℕ, ◌+◌, ◌-◌, ◌*◌, ◌%◌, ◌≤◌, ◌<◌, ◌≡◌, Bool, true, false, cond, List, eqb}
use Rattle.pixel.specs.Pixel.{get_pixel}
use Rattle.pixel.specs.Raster.{raster}
use Rattle.blit.specs.Blit.{Blit, Source, given, memory, chip_blit, towards}
use Rattle.blit.specs.declared.Mix.{Mix}
use Rattle.blit.specs.declared.Mix.TheVariants.{Store, Raster, Key}
use Rattle.blit.specs.declared.From.{From}
use Rattle.blit.specs.declared.From.TheVariants.{Colour, Memory, Pattern}
use Rattle.blit.specs.declared.Job.{Job}

-- what source and destination pixel make: a fill stores its source, a move, a write or a pattern fill combines the two under a raster code,
-- and with a key colour the source is stored, "or d kept where s is the key" (02, h)
abbrev pub mix_of : Mix → ℕ → ℕ → ℕ → ℕ
mix_of Store bytes s d = s
mix_of (Raster c) bytes s d = raster (8 * bytes) c s d
mix_of (Key k) bytes s d = cond (eqb s k) d s

-- the pixel in column u of line v of the 8 × 8 pattern at address a: rows of pixels, "and the pattern repeats both ways" (02, h)
unfoldable pub pattern_pixel : ℕ → List ℕ → ℕ → ℕ → ℕ → ℕ
pattern_pixel bytes old a u v = get_pixel bytes old (a + (v % 8 * 8 + u % 8) * bytes)

-- the source in the memory that the blit starts on: a pattern is known from there, "read before its first pixel" (02, h)
abbrev pub source_of : From → ℕ → List ℕ → Source
source_of (Colour c) bytes old = given (λ i j. c)
source_of (Memory s) bytes old = memory s
source_of (Pattern a x y) bytes old = given (λ i j. pattern_pixel bytes old a (x + i) (y + j))

-- the blit that a job is, with its source
unfoldable pub blit_of : Job → Source → Blit
blit_of job source =
    record {
      bytes = job.bytes;
      line = job.line;
      width = job.width;
      height = job.height;
      combine = mix_of job.mix job.bytes;
      source = source;
      destination = job.destination;
    }

-- what a job does to the memory
abbrev pub performed : Job → List ℕ → List ℕ
performed job old = chip_blit (blit_of job (source_of job.from job.bytes old)) (towards job.down) old

-- ---- the limits; only contracts of the functions cite them
-- line j of a rectangle that is drawn from address a lies in a memory of m bytes
abbrev pub LineIn : Bool → ℕ → ℕ → ℕ → ℕ → ℕ → ℕ → Type 0
LineIn false bytes line width a m j = a + (j * line + width * bytes) ≤ m
LineIn true bytes line width a m j = (j * line + width * bytes ≤ a + bytes) × (a + bytes ≤ m)

-- what is asked of the source: a colour goes up through the memory and is stored, a source in memory lies there on whole pixels, and a pattern
-- lies there and goes up
abbrev pub SourceIn : From → Mix → Bool → ℕ → ℕ → ℕ → ℕ → ℕ → Type 0
SourceIn (Colour c) mix down bytes line width m j = (down ≡ false) × (mix ≡ Store)
SourceIn (Memory s) mix down bytes line width m j = LineIn down bytes line width s m j × (s % bytes ≡ 0)
SourceIn (Pattern a x y) mix down bytes line width m j = (down ≡ false) × (a + 64 * bytes ≤ m)

-- the limits of a job in a memory of m bytes
pub record JobOk (m : ℕ) (job : Job) : Type 0 where
  pub some_bytes : 0 < job.bytes
  pub few_bytes : job.bytes ≤ 2
  pub line : job.line ≤ 4096
  pub even_line : job.line % job.bytes ≡ 0
  pub width : job.width ≤ 1024
  pub some_height : 0 < job.height
  pub height : job.height ≤ 1024
  pub even : job.destination % job.bytes ≡ 0
  pub memory : m ≤ 262144
  pub destination : LineIn job.down job.bytes job.line job.width job.destination m (job.height - 1)
  pub source : SourceIn job.from job.mix job.down job.bytes job.line job.width m (job.height - 1)
