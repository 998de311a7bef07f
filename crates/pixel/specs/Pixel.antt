-- Pixels in memory.
use Rattle.std.specs.Prelude.{ℕ, zero, suc, ◌+◌, ◌-◌, ◌*◌, ◌/◌, ◌%◌, ◌^◌, max, cond, List, ltb, get_or, set}

-- the pixel of n bytes at an address, low byte first (01, "16-bit pixels have the low byte first")
unfoldable pub get_pixel : ℕ → List ℕ → ℕ → ℕ
get_pixel zero memory a = 0
get_pixel (suc n) memory a = get_or memory a 0 + 256 * get_pixel n memory (suc a)

-- the memory with the pixel v stored in the n bytes at an address
unfoldable pub put_pixel : ℕ → List ℕ → ℕ → ℕ → List ℕ
put_pixel zero memory a v = memory
put_pixel (suc n) memory a v = put_pixel n (set memory a (v % 256)) (suc a) (v / 256)

-- byte k of a number, the lowest being 0
unfoldable pub byte_of : ℕ → ℕ → ℕ
byte_of zero v = v % 256
byte_of (suc k) v = byte_of k (v / 256)

-- the address of pixel i of a dword: of the byte that it stands in, at depth 16 of its low byte (02, e)
abbrev pub pixel_byte : ℕ → ℕ → ℕ → ℕ
pixel_byte depth dword i = 4 * dword + i * depth / 8

-- pixel i of a dword (01, the chip's walk: "Pixel 0 is in the lowest byte and, below depth 8, in its highest bits").
-- Below depth 8, 8 - depth - (i × depth mod 8) bits of the byte stand to the pixel's right; from depth 8 on, none do.
unfoldable pub dword_pixel : ℕ → List ℕ → ℕ → ℕ → ℕ
dword_pixel depth memory dword i =
    get_pixel (max 1 (depth / 8)) memory (pixel_byte depth dword i) / 2 ^ (8 - (depth + i * depth % 8)) % 2 ^ depth

-- the place of its highest bit in that byte (02, e): below depth 8 from 7 down, past the pixels to its left; at depth 8 and 16 it is 7
unfoldable pub pixel_bit : ℕ → ℕ → ℕ
pixel_bit depth i = cond (ltb depth 8) (7 - i * depth % 8) 7

-- the pixel whose highest bit is bit b of byte a: so many bits from there down, at depth 16 two whole bytes
unfoldable pub stored_pixel : ℕ → List ℕ → ℕ → ℕ → ℕ
stored_pixel depth memory a b = get_pixel (max 1 (depth / 8)) memory a / 2 ^ (b + 1 - depth) % 2 ^ depth
