-- The numbers that a program is given as text: one to nine decimal digits, and nothing else.
use Rattle.std.specs.Prelude.{ℕ, ◌+◌, ◌-◌, ◌*◌, Bool, ◌&&◌, cond, Option, Some, None, List, [], ◌∷◌, length, leb}

-- a letter that is a digit: 0 has code 48, 9 has 57
abbrev pub is_digit : ℕ → Bool
is_digit c = leb 48 c && leb c 57

-- a number with further digits behind it, each worth a tenth of the one before
unfoldable pub digits_behind : ℕ → List ℕ → Option ℕ
digits_behind n [] = Some n
digits_behind n (c ∷ s) = cond (is_digit c) (digits_behind (10 * n + (c - 48)) s) None

-- what a text means
unfoldable pub number_of : List ℕ → Option ℕ
number_of s = cond (leb 1 (length s) && leb (length s) 9) (digits_behind 0 s) None
