-- What the blit registers say of a blit that is started (01, "Blits"; 02, h). Each is read by its bits (002 section 9.1).
use Rattle.std.specs.Prelude.{ℕ, ◌+◌, ◌*◌, ◌/◌, ◌%◌, ◌^◌, List, Bool, true, false, ◌&&◌, cond, leb, eqb}
use Rattle.blit.specs.Blit.{Blit, given}
use Rattle.blit.specs.Job.{mix_of, performed}
use Rattle.blit.specs.declared.Mix.{Mix}
use Rattle.blit.specs.declared.Mix.TheVariants.{Store, Raster, Key}
use Rattle.blit.specs.declared.From.{From}
use Rattle.blit.specs.declared.From.TheVariants.{Colour, Memory, Pattern}
use Rattle.blit.specs.declared.Job.{Job}
use Rattle.chip.specs.declared.Registers.{Registers}

-- 8008h bits 3-0
abbrev pub operation : Registers → ℕ
operation b = b.command % 16

-- 8008h bits 19-16
abbrev pub raster_code : Registers → ℕ
raster_code b = b.command / 65536 % 16

-- bytes of a pixel: colour format, 8000h bit 18, is 0 for depth 8 and 1 for depth 16
abbrev pub bytes_of : Registers → ℕ
bytes_of b = 1 + b.control / 262144 % 2

-- 800Ch and 8010h bits 17-0
abbrev pub source_of : Registers → ℕ
source_of b = b.source % 262144

abbrev pub destination_of : Registers → ℕ
destination_of b = b.destination % 262144

-- line length in bytes: 8014h bits 10-0 are the memory offset in 16-bit words
abbrev pub line_of : Registers → ℕ
line_of b = 2 * (b.offset % 2048)

-- 8018h and 801Ch bits 9-0 hold one less
abbrev pub width_of : Registers → ℕ
width_of b = b.width % 1024 + 1

abbrev pub height_of : Registers → ℕ
height_of b = b.height % 1024 + 1

-- 8024h bits 15-0
abbrev pub foreground_of : Registers → ℕ
foreground_of b = b.foreground % 65536

-- 8020h: the key colour, "bits 7-0" at depth 8 and "bits 15-0" at depth 16
abbrev pub key_of : Registers → ℕ
key_of b = b.background % 256 ^ bytes_of b

-- 800Ch of a pattern fill (002 table 9-4): the pattern's address is in the bits from 6 on at depth 8 and from 7 on at depth 16, its line in
-- the three bits below, and its pixel in those that are left
abbrev pub pattern_base : Registers → ℕ
pattern_base b = source_of b / (64 * bytes_of b) * (64 * bytes_of b)

abbrev pub pattern_line : Registers → ℕ
pattern_line b = source_of b / (8 * bytes_of b) % 8

abbrev pub pattern_column : Registers → ℕ
pattern_column b = source_of b / bytes_of b % 8

-- a value for each operation of the model (002 section 9.1): 0 write, 2 move in positive direction, 3 move in negative direction,
-- 5 transparent move, 6 pattern fill with raster code, 7 pattern fill with key colour, Ch fill; and one for any other number
module _ {A : Type 0} where
  abbrev pub by_blit : ℕ → A → A → A → A → A → A → A → A → A
  by_blit operation write up down transparent pattern keyed fill other =
      cond (eqb operation 0) write
      (cond (eqb operation 2) up
      (cond (eqb operation 3) down
      (cond (eqb operation 5) transparent
      (cond (eqb operation 6) pattern
      (cond (eqb operation 7) keyed
      (cond (eqb operation 0xC) fill other))))))

-- an address of whole pixels: even at depth 16
abbrev pub whole_at : Registers → ℕ → Bool
whole_at b a = eqb (a % bytes_of b) 0

-- what is asked of the source address: 0 of a write, whole pixels of a move and of a pattern, nothing of a fill; the model has no other
-- operation
unfoldable pub source_fits : Registers → Bool
source_fits b =
    by_blit (operation b)
    (eqb (source_of b) 0)
    (whole_at b (source_of b))
    (whole_at b (source_of b))
    (whole_at b (source_of b))
    (whole_at b (source_of b))
    (whole_at b (source_of b))
    true
    false

-- not refused by 21: an operation of the model, used addresses even at depth 16, a write's source start 0
unfoldable pub startable : Registers → Bool
startable b = source_fits b && whole_at b (destination_of b)

-- from the first byte of the first pixel to that of the last
unfoldable pub span : Registers → ℕ
span b = b.height % 1024 * line_of b + b.width % 1024 * bytes_of b

-- all bytes from an address on in positive, or back in negative direction, lie in a memory of m bytes
abbrev pub forward : ℕ → Registers → ℕ → Bool
forward m b a = leb (a + span b + bytes_of b) m

abbrev pub backward : ℕ → Registers → ℕ → Bool
backward m b a = leb (span b) a && leb (a + bytes_of b) m

-- all bytes of the pattern lie there
abbrev pub pattern_within : ℕ → Registers → Bool
pattern_within m b = leb (pattern_base b + 64 * bytes_of b) m

-- not refused by 22: every byte that the blit touches lies in the memory; a move touches its source under any raster code, a pattern fill its
-- pattern, and pixels that a key colour keeps are touched too (02, h)
unfoldable pub within : ℕ → Registers → Bool
within m b =
    by_blit (operation b)
    (forward m b (destination_of b))
    (forward m b (destination_of b) && forward m b (source_of b))
    (backward m b (destination_of b) && backward m b (source_of b))
    (forward m b (destination_of b) && forward m b (source_of b))
    (forward m b (destination_of b) && pattern_within m b)
    (forward m b (destination_of b) && pattern_within m b)
    (forward m b (destination_of b))
    true

-- what source and destination pixel make: "Fill stores the foreground", 5 and 7 go by the key colour and ignore the raster code (02, h), the
-- others combine under the raster code
unfoldable pub mix_by : Registers → Mix
mix_by b =
    by_blit (operation b)
    (Raster (raster_code b))
    (Raster (raster_code b))
    (Raster (raster_code b))
    (Key (key_of b))
    (Raster (raster_code b))
    (Key (key_of b))
    Store
    Store

-- where the source pixels are, a move's, a pattern's and a fill's; a write's come with its data words
unfoldable pub from_by : Registers → From
from_by b =
    by_blit (operation b)
    (Colour 0)
    (Memory (source_of b))
    (Memory (source_of b))
    (Memory (source_of b))
    (Pattern (pattern_base b) (pattern_column b) (pattern_line b))
    (Pattern (pattern_base b) (pattern_column b) (pattern_line b))
    (Colour (foreground_of b))
    (Colour 0)

-- the blit that the registers name
unfoldable pub job_of : Registers → Job
job_of b =
    record {
      down = eqb (operation b) 3;
      bytes = bytes_of b;
      line = line_of b;
      width = width_of b;
      height = height_of b;
      mix = mix_by b;
      from = from_by b;
      destination = destination_of b;
    }

-- a write, whose pixels come with its data words, and are combined under the raster code
unfoldable pub write_of : Registers → (ℕ → ℕ → ℕ) → Blit
write_of b pixel =
    record {
      bytes = bytes_of b;
      line = line_of b;
      width = width_of b;
      height = height_of b;
      combine = mix_of (Raster (raster_code b)) (bytes_of b);
      source = given pixel;
      destination = destination_of b;
    }

-- what a started blit does to the memory by itself; a write waits for its data
unfoldable pub started : Registers → List ℕ → List ℕ
started b old =
    by_blit (operation b)
    old
    (performed (job_of b) old)
    (performed (job_of b) old)
    (performed (job_of b) old)
    (performed (job_of b) old)
    (performed (job_of b) old)
    (performed (job_of b) old)
    old
