-- Some pixels, computed: 01's "low byte first", "pixel 0 in the lowest byte and, below depth 8, in its highest bits", and
-- "bit (2s + d) of c", held against 002's table of codes.
use mathlib.Core.Path.{◌≡◌, refl}
use mathlib.Core.Bool.{true, false}
use mathlib.Core.List.{List, [], ◌∷◌, map}
use Prim.Native.Nat.{ℕ, ◌-◌, ◌^◌}
use lib.Bits.{bit_and, bit_or, bit_xor}
use Rattle.pixel.specs.Depth.{is_depth, per_dword}
use Rattle.pixel.specs.Pixel.{get_pixel, put_pixel, byte_of, dword_pixel}
use Rattle.pixel.specs.Raster.{bit, bitwise, raster}
use Rattle.pixel.specs.Masking.{mask_of, masks_of, chosen, masked}

pub depth_cases : (is_depth 1 ≡ true) × (is_depth 16 ≡ true) × (is_depth 3 ≡ false) × (is_depth 32 ≡ false) × (per_dword 4 ≡ 8)
unfolding is_depth
depth_cases = (refl, refl, refl, refl, refl)

pub pixel_cases : (get_pixel 1 (9 ∷ 0x34 ∷ 0x12 ∷ []) 1 ≡ 0x34)
    × (get_pixel 2 (9 ∷ 0x34 ∷ 0x12 ∷ []) 1 ≡ 0x1234)
    × (put_pixel 2 (9 ∷ 0 ∷ 0 ∷ 9 ∷ []) 1 0x1234 ≡ 9 ∷ 0x34 ∷ 0x12 ∷ 9 ∷ [])
    × (byte_of 0 0x1234 ≡ 0x34)
    × (byte_of 1 0x1234 ≡ 0x12)
unfolding get_pixel put_pixel byte_of
pixel_cases = (refl, refl, refl, refl, refl)

-- a dword of the bytes 12h 34h 56h 78h at each depth
abbrev four : List ℕ
four = 0x12 ∷ 0x34 ∷ 0x56 ∷ 0x78 ∷ []

pub dword_cases : (dword_pixel 1 four 0 3 ≡ 1)
    × (dword_pixel 2 four 0 1 ≡ 1)
    × (dword_pixel 4 four 0 0 ≡ 1)
    × (dword_pixel 4 four 0 1 ≡ 2)
    × (dword_pixel 8 four 0 1 ≡ 0x34)
    × (dword_pixel 16 four 0 1 ≡ 0x7856)
unfolding get_pixel dword_pixel
dword_cases = (refl, refl, refl, refl, refl, refl)

-- the source, the destination, exclusive or, and the source where the destination is 0
pub raster_cases : (bit 6 2 ≡ 1)
    × (bit 6 3 ≡ 0)
    × (raster 4 0xC 0xC 0xA ≡ 0xC)
    × (raster 4 0xA 0xC 0xA ≡ 0xA)
    × (raster 4 6 0xC 0xA ≡ 6)
    × (raster 4 4 0xC 0xA ≡ 4)
unfolding bitwise
raster_cases = (refl, refl, refl, refl, refl, refl)

abbrev sixteen : List ℕ
sixteen = 0 ∷ 1 ∷ 2 ∷ 3 ∷ 4 ∷ 5 ∷ 6 ∷ 7 ∷ 8 ∷ 9 ∷ 10 ∷ 11 ∷ 12 ∷ 13 ∷ 14 ∷ 15 ∷ []

-- source 1100 and destination 1010 make the code itself, for each of the sixteen; all bits at once too
pub all_codes : (map (λ c. raster 4 c 0xC 0xA) sixteen ≡ sixteen) × (map (λ c. masked (masks_of 4 c) 0xC 0xA) sixteen ≡ sixteen)
unfolding bitwise mask_of chosen masked
all_codes = (refl, refl)

-- what each code makes of source and destination, as 002's table 9-2 writes it, in numbers of n bits
abbrev by_table : ℕ → ℕ → ℕ → List ℕ
by_table n s d =
    let one : ℕ = 2 ^ n - 1 in
    let not : ℕ → ℕ = λ x. one - x in
    0 ∷ not (bit_or s d) ∷ bit_and (not s) d ∷ not s ∷ bit_and s (not d) ∷ not d ∷ bit_xor s d ∷ not (bit_and s d)
    ∷ bit_and s d ∷ not (bit_xor s d) ∷ d ∷ bit_or (not s) d ∷ s ∷ bit_or s (not d) ∷ bit_or s d ∷ one ∷ []

pub table_cases : (map (λ c. raster 8 c 0xCA 0xAC) sixteen ≡ by_table 8 0xCA 0xAC)
    × (map (λ c. raster 16 c 0xCA35 0xAC53) sixteen ≡ by_table 16 0xCA35 0xAC53)
unfolding bitwise
table_cases = (refl, refl)

-- a mask of 16 bits where the code has 1 and where it has 0; the high digit of one number with the low digit of another; and, all bits at
-- once, neither source nor destination (code 1) and the inverse of the destination (code 5), at both depths
pub masking_cases : (mask_of 16 5 2 ≡ 0xFFFF)
    × (mask_of 16 5 1 ≡ 0)
    × (chosen 0xF0 0xAB 0xCD ≡ 0xAD)
    × (masked (masks_of 8 1) 0xCC 0xAA ≡ 0x11)
    × (masked (masks_of 8 5) 0xCC 0xAA ≡ 0x55)
    × (masked (masks_of 16 1) 0xCC0F 0xAA0F ≡ 0x11F0)
    × (masked (masks_of 16 5) 0xCC0F 0xAA0F ≡ 0x55F0)
unfolding mask_of chosen masked
masking_cases = (refl, refl, refl, refl, refl, refl, refl)
