-- Numbers in bytes (01, "Stored records": numbers are little-endian), and bytes that must be zero.
use Rattle.std.specs.Prelude.{ℕ, ◌+◌, ◌*◌, ◌/◌, ◌%◌, List, [], ◌∷◌, ◌++◌, Bool, true, ◌&&◌, length, get_or, drop, eqb}

-- the byte at a place; 0 past the end
abbrev pub byte_at : List ℕ → ℕ → ℕ
byte_at s at = get_or s at 0

-- the number in two bytes
abbrev pub u16_at : List ℕ → ℕ → ℕ
u16_at s at = byte_at s at + 256 * byte_at s (at + 1)

-- the number in three bytes
abbrev pub u24_at : List ℕ → ℕ → ℕ
u24_at s at = u16_at s at + 65536 * byte_at s (at + 2)

-- the number in four bytes
abbrev pub u32_at : List ℕ → ℕ → ℕ
u32_at s at = u16_at s at + 65536 * u16_at s (at + 2)

-- the two bytes of a number
abbrev pub two_bytes : ℕ → List ℕ
two_bytes v = v % 256 ∷ v / 256 % 256 ∷ []

-- the three bytes of a number
abbrev pub three_bytes : ℕ → List ℕ
three_bytes v = v % 256 ∷ v / 256 % 256 ∷ v / 65536 % 256 ∷ []

-- the four bytes of a number
abbrev pub four_bytes : ℕ → List ℕ
four_bytes v = v % 256 ∷ v / 256 % 256 ∷ v / 65536 % 256 ∷ v / 16777216 % 256 ∷ []

-- every byte is zero
unfoldable pub all_zero : List ℕ → Bool
all_zero [] = true
all_zero (x ∷ xs) = eqb x 0 && all_zero xs

-- new in place of the first bytes of old
abbrev pub over : List ℕ → List ℕ → List ℕ
over new old = new ++ drop (length new) old
