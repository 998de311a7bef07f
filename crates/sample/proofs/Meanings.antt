-- What a letter and two numbers mean, one law for each way out.
use Prim.Native.Nat.{ℕ, ◌<◌}
use mathlib.Core.Path.{◌≡◌, refl, sym, ap, ◌∙◌}
use mathlib.Core.List.{List, [], ◌∷◌}
use native.Mathlib.Omega.{arith}
use lib.ListN.{length}
use mathlib.Core.Bool.{true, false, not}
use lib.Dec.{leb, eqb}
use borrow.Author.Tests.{le-leb, lt-leb}
use Rattle.std.specs.Prelude.{Option, Some, None, Result, Ok, Err, IsErr, MatchResult, is_some, is_ok}
use Rattle.std.specs.Result.{OkIff}
use Rattle.text.specs.Numbers.{number_of}
use Rattle.sample.specs.Line.{is_space, stops, before, behind, is_empty, Meaning, given, bad, sample_with, line_means}
use Rattle.sample.specs.declared.NoSample.{NoSample}
use Rattle.sample.specs.declared.Stop.{Stop}

module _ (e : Stop) (c : ℕ) where
  pub stops_space : e ≡ Stop.Space → is_space c ≡ stops e c
  unfolding stops
  stops_space p = ap (λ (x : Stop). stops x c) (sym p)

  pub stops_ink : e ≡ Stop.Ink → not (is_space c) ≡ stops e c
  unfolding stops
  stops_ink p = ap (λ (x : Stop). stops x c) (sym p)

  pub stops_line_end : e ≡ Stop.LineEnd → eqb c 10 ≡ stops e c
  unfolding stops
  stops_line_end p = ap (λ (x : Stop). stops x c) (sym p)

-- ---- two numbers: each way out, and the sample
pub way_out : (r : Meaning) → IsErr r → r ≡ bad
way_out (Ok v) h = cc
way_out (Err e) h = refl

pub no_sequence : (a b : Option ℕ) → is_some a ≡ false → bad ≡ sample_with a b
unfolding sample_with
no_sequence None b h = refl
no_sequence (Some n) b h = cc

pub no_height : (a b : Option ℕ) → is_some b ≡ false → bad ≡ sample_with a b
unfolding sample_with
no_height None b h = refl
no_height (Some n) None h = refl
no_height (Some n) (Some k) h = cc

module _ (a b : Option ℕ) (n h : ℕ) (first : a ≡ Some n) (second : b ≡ Some h) where
  pub too_high : leb n 65535 ≡ false → bad ≡ sample_with a b
  unfolding sample_with
  too_high e = rw (first, second, e)

  pub is_sample : leb n 65535 ≡ true → given n h ≡ sample_with a b
  unfolding sample_with
  is_sample e = rw (first, second, e)

-- a number made one of 16 bits, with another error
module _ {E : Type 0} (n : ℕ) where
  pub not_short : (r : Result ℕ E) → OkIff r (n < 65536) n → is_ok r ≡ false → leb n 65535 ≡ false
  not_short (Ok s) h f = cc
  not_short (Err e) h f = lt-leb n 65535 (omega (arith, h))

  pub short : (P : E → Type 0) (r : Result ℕ E) (q : Result ℕ NoSample) (s : ℕ) → OkIff r (n < 65536) n → MatchResult r (λ x. q ≡ Ok x) P → is_ok q ≡ is_ok r → q ≡ Ok s → (n ≡ s) × (leb n 65535 ≡ true)
  short P (Ok x) q s h m f e = let k : x ≡ s = cc in (sym h.1 ∙ k, le-leb n 65535 (omega (arith, h.0)))
  short P (Err e) q s h m f g = absurd (cc)

-- ---- a line
length_zero : (s : List ℕ) → length s ≡ 0 → s ≡ []
length_zero [] h = refl
length_zero (x ∷ s) h = absurd (omega (arith, h))

not_empty : (s : List ℕ) → (length s ≡ 0 → ⊥) → is_empty s ≡ false
not_empty [] h = absurd (h refl)
not_empty (x ∷ s) h = refl

module _ (line a b c : List ℕ) (first : a ≡ behind Stop.Ink line) where
  pub line_nothing : length a ≡ 0 → Ok None ≡ line_means line
  unfolding line_means
  line_nothing h = rw (← first, length_zero a h)

  module _ (second : b ≡ behind Stop.Ink (behind Stop.Space a)) (third : c ≡ behind Stop.Ink (behind Stop.Space b)) (some : (length a ≡ 0) → ⊥) where
    pub line_bad : ((length c ≡ 0) → ⊥) → bad ≡ line_means line
    unfolding line_means
    line_bad h = rw (← first, ← second, ← third, not_empty a some, not_empty c h)

    pub line_sample : (x y : Option ℕ) → x ≡ number_of (before Stop.Space a) → y ≡ number_of (before Stop.Space b) → length c ≡ 0 → sample_with x y ≡ line_means line
    unfolding line_means
    line_sample x y e f h = rw (← first, ← second, ← third, not_empty a some, length_zero c h, ← e, ← f)
