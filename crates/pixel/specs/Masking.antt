-- How the functions combine all bits of two pixels at once, and the claim that this is the rule `raster` (02, b)). Nothing of 01 cites it.
use Rattle.std.specs.Prelude.{ℕ, ◌+◌, ◌-◌, ◌*◌, ◌^◌, ◌<◌, ◌≡◌}
use Rattle.std.specs.Int.Bits.{bit_and, bit_xor}
use Rattle.pixel.specs.Raster.{bit, raster}
use Rattle.pixel.specs.declared.Masks.{Masks}

-- n ones where bit k of the code is 1, else 0
unfoldable pub mask_of : ℕ → ℕ → ℕ → ℕ
mask_of n c k = (2 ^ n - 1) * bit c k

-- the masks of a code at n bits: its bits 0 to 3, which 2s + d names
abbrev pub masks_of : ℕ → ℕ → Masks
masks_of n c = record { neither = mask_of n c 0; destination = mask_of n c 1; source = mask_of n c 2; both = mask_of n c 3 }

-- each bit from a where x has 1, from b where it has 0
unfoldable pub chosen : ℕ → ℕ → ℕ → ℕ
chosen x a b = bit_xor b (bit_and x (bit_xor a b))

-- source and destination pixel under masks: the destination's bits choose among two masks where the source has 1, among the
-- other two where it has 0, and the source's bits between the two results
unfoldable pub masked : Masks → ℕ → ℕ → ℕ
masked m s d = chosen s (chosen d m.both m.source) (chosen d m.destination m.neither)

-- ---- what is claimed

-- for every code and at every number of bits, so at both depths, all bits at once are the rule bit by bit
abbrev pub AtOnce : Type 0
AtOnce = (n c s d : ℕ) → masked (masks_of n c) s d ≡ raster n c s d

-- the low byte of a pixel, x or y, is combined apart from the n bits above it: so a line may be combined byte by byte at either depth
abbrev pub ByBytes : Type 0
ByBytes = (n c x y s d : ℕ) → x < 256 → y < 256 → raster (8 + n) c (x + 256 * s) (y + 256 * d) ≡ raster 8 c x y + 256 * raster n c s d
