-- Text: letters, numbers in decimal, and what a buffer holds once a text is stored in it.
use Rattle.std.specs.Prelude.{ℕ, zero, suc, ◌+◌, ◌/◌, ◌%◌, min, ◌≡◌, cond, List, [], ◌∷◌, ◌++◌, length, ltb}
use Prim.Native.Char.{code}
use Prim.Native.String.{String, [] as end, ◌∷◌ as ◌then◌}
use Rattle.std.proofs.lemmas.List.Edits.{sets}
use Rattle.io.specs.Counts.{IsPrefixLen}
use Rattle.io.specs.Digits.{hex_digit_ascii}

-- the codes of a text's letters
abbrev pub letters : String → List ℕ
letters end = []
letters (c then s) = code c ∷ letters s

-- the last digits of a number, at most k, with no zero in front
unfoldable pub last_decimal_digits : ℕ → ℕ → List ℕ
last_decimal_digits zero n = []
last_decimal_digits (suc k) n = cond (ltb n 10) [] (last_decimal_digits k (n / 10)) ++ (hex_digit_ascii (n % 10) ∷ [])

-- a number of 64 bits in decimal
unfoldable pub decimal : ℕ → List ℕ
decimal n = last_decimal_digits 20 n

-- bytes stored in a text, cut where it ends: what the text then holds, and the place behind them, which is within it
pub record Stored (old : List ℕ) (at : ℕ) (bytes new : List ℕ) (behind : ℕ) : Type 0 where
  pub text : new ≡ sets old at bytes
  pub next : behind ≡ min (at + length bytes) (length old)
  pub within : IsPrefixLen behind new
