-- The account of a blit (01, "Blits": "Pixels go one by one, line by line, in the direction named").
-- Each read sees what the earlier pixels stored, so a move in the wrong direction smears.
use Rattle.std.specs.Prelude.{ℕ, zero, suc, ◌+◌, ◌-◌, ◌*◌, List, Bool, true, false, ltb}
use Rattle.pixel.specs.Pixel.{get_pixel, put_pixel}

-- where the source pixels come from: known before the blit starts, as pixel i of line j (fill, write, pattern fill),
-- or in memory, the first at an address (move)
pub data Source : Type 0 where
  given : (ℕ → ℕ → ℕ) → Source
  memory : ℕ → Source

-- up or down through the memory
pub data Direction : Type 0 where
  positive negative : Direction

-- n bytes on from address a
abbrev pub along : Direction → ℕ → ℕ → ℕ
along positive a n = a + n
along negative a n = a - n

-- bytes of a pixel, line length in bytes, width and height in pixels, what source and destination pixel make together,
-- the source, and the destination address
pub record Blit : Type 0 where
  pub bytes : ℕ
  pub line : ℕ
  pub width : ℕ
  pub height : ℕ
  pub combine : ℕ → ℕ → ℕ
  pub source : Source
  pub destination : ℕ

-- from the first pixel to pixel i of line j
abbrev pub offset : Blit → ℕ → ℕ → ℕ
offset b i j = j * b.line + i * b.bytes

-- the source of pixel i of line j, n bytes from the first
abbrev pub source_pixel : ℕ → Direction → List ℕ → Source → ℕ → ℕ → ℕ → ℕ
source_pixel bytes dir m (given f) n i j = f i j
source_pixel bytes dir m (memory s) n i j = get_pixel bytes m (along dir s n)

-- the first n pixels of a run, one after the other: pixel i goes to address (place i) and takes its source from (fetch m i),
-- m being the memory as the earlier ones left it
unfoldable pub pixels : ℕ → (ℕ → ℕ → ℕ) → (ℕ → ℕ) → (List ℕ → ℕ → ℕ) → ℕ → List ℕ → List ℕ
pixels bytes combine place fetch zero old = old
pixels bytes combine place fetch (suc n) old =
    let m : List ℕ = pixels bytes combine place fetch n old in
    put_pixel bytes m (place n) (combine (fetch m n) (get_pixel bytes m (place n)))

-- the first n pixels of line j
unfoldable pub chip_line : Blit → Direction → ℕ → ℕ → List ℕ → List ℕ
chip_line b dir j n old =
    pixels b.bytes b.combine
    (λ i. along dir b.destination (offset b i j))
    (λ m i. source_pixel b.bytes dir m b.source (offset b i j) i j)
    n old

-- the first n lines
unfoldable pub chip_lines : Blit → Direction → ℕ → List ℕ → List ℕ
chip_lines b dir zero old = old
chip_lines b dir (suc n) old = chip_line b dir n b.width (chip_lines b dir n old)

-- the whole blit
unfoldable pub chip_blit : Blit → Direction → List ℕ → List ℕ
chip_blit b dir old = chip_lines b dir b.height old

-- "Move goes in negative direction exactly when its destination address is greater than its source address"
abbrev pub towards : Bool → Direction
towards true = negative
towards false = positive

abbrev pub direction_of : ℕ → ℕ → Direction
direction_of destination source = towards (ltb source destination)

-- "both start addresses are then the lower right pixels'"
abbrev pub shifted : ℕ → Source → Source
shifted n (given f) = given f
shifted n (memory s) = memory (s + n)

abbrev pub last_offset : Blit → ℕ
last_offset b = offset b (b.width - 1) (b.height - 1)

abbrev pub from_last : Blit → Blit
from_last b =
    record {
      bytes = b.bytes;
      line = b.line;
      width = b.width;
      height = b.height;
      combine = b.combine;
      source = shifted (last_offset b) b.source;
      destination = b.destination + last_offset b;
    }

-- the blit as the chip is given it in a direction
abbrev pub starting : Direction → Blit → Blit
starting positive b = b
starting negative b = from_last b
