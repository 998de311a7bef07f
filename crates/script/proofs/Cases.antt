-- Lines, computed: where they end, their numbers, and what they store.
use Prim.Native.Nat.{ℕ}
use mathlib.Core.Path.{◌≡◌, refl}
use mathlib.Core.List.{List, [], ◌∷◌}
use Rattle.script.specs.Script.{line_length, line_end, number_at, number_put, scan_byte, scan_bytes, number_of, fields_put, stored, words_put}

-- `ab`, a line end, `c`
abbrev text : List ℕ
text = 97 ∷ 98 ∷ 10 ∷ 99 ∷ []

-- from the start, from the line end itself, from the last line, and from past the end
pub line_cases_lem : (line_end text 0 ≡ 2) × (line_end text 2 ≡ 2) × (line_end text 3 ≡ 4) × (line_end text 7 ≡ 7)
unfolding line_length
line_cases_lem = (refl, refl, refl, refl)

-- `patch   2 1Fh 3`
abbrev line : List ℕ
line = 112 ∷ 97 ∷ 116 ∷ 99 ∷ 104 ∷ 32 ∷ 32 ∷ 32 ∷ 50 ∷ 32 ∷ 49 ∷ 70 ∷ 104 ∷ 32 ∷ 51 ∷ []

-- decimal, hexadecimal, the last, and a missing one
pub number_cases : (number_of line 0 ≡ 2) × (number_of line 1 ≡ 0x1F) × (number_of line 2 ≡ 3) × (number_of line 3 ≡ 0)
unfolding scan_byte scan_bytes number_of
number_cases = (refl, refl, refl, refl)

-- `word    102 4000000003h`: three digits, and a number of which 32 bits are kept
abbrev long : List ℕ
long = 119 ∷ 111 ∷ 114 ∷ 100 ∷ 32 ∷ 32 ∷ 32 ∷ 32 ∷ 49 ∷ 48 ∷ 50 ∷ 32 ∷ 52 ∷ 48 ∷ 48 ∷ 48 ∷ 48 ∷ 48 ∷ 48 ∷ 48 ∷ 48 ∷ 51 ∷ 104 ∷ []

pub long_cases : (number_of long 0 ≡ 102) × (number_of long 1 ≡ 3)
unfolding scan_byte scan_bytes number_of
long_cases = (refl, refl)

-- four bytes that just fit, and four that do not
pub byte_cases : (number_at (9 ∷ 1 ∷ 2 ∷ 0 ∷ 0 ∷ []) 1 ≡ 513)
    × (number_at (9 ∷ 1 ∷ 2 ∷ 0 ∷ 0 ∷ []) 2 ≡ 0)
    × (number_put (9 ∷ 9 ∷ 9 ∷ 9 ∷ 9 ∷ []) 1 513 ≡ 9 ∷ 1 ∷ 2 ∷ 0 ∷ 0 ∷ [])
    × (number_put (9 ∷ 9 ∷ 9 ∷ 9 ∷ 9 ∷ []) 2 513 ≡ 9 ∷ 9 ∷ 9 ∷ 9 ∷ 9 ∷ [])
unfolding number_at number_put
byte_cases = (refl, refl, refl, refl)

-- 2 at 0 and 31 at 1; 31 at address 2; 3 in the words from 2 to 31, of which there are two
pub store_cases : (fields_put line 0 (0 ∷ 1 ∷ []) (9 ∷ 9 ∷ 9 ∷ 9 ∷ 9 ∷ 9 ∷ []) ≡ 2 ∷ 0x1F ∷ 0 ∷ 0 ∷ 0 ∷ 9 ∷ [])
    × (stored line (9 ∷ 9 ∷ 9 ∷ 9 ∷ 9 ∷ 9 ∷ []) ≡ 9 ∷ 9 ∷ 0x1F ∷ 0 ∷ 0 ∷ 0 ∷ [])
    × (words_put line (9 ∷ 9 ∷ 9 ∷ 9 ∷ []) ≡ 9 ∷ 9 ∷ 3 ∷ 3 ∷ [])
unfolding scan_byte scan_bytes number_of number_put fields_put words_put
store_cases = (refl, refl, refl)
