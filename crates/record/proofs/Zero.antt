-- Laws of `all_zero` over the rest of a list, for a loop that goes up.
use Prim.Native.Nat.{ℕ, ◌+◌, ◌<◌, ◌≤◌}
use mathlib.Core.Path.{◌≡◌, refl}
use mathlib.Core.List.{List}
use mathlib.Core.Bool.{Bool, true, false, ◌&&◌}
use native.Mathlib.Numerals.{add-one}
use lib.ListN.{length, get_or, drop, drop_of_length-le}
use lib.Seq.{drop-cons}
use lib.Dec.{eqb}
use Rattle.record.specs.Bytes.{all_zero}

module _ (s : List ℕ) (i : ℕ) where
  pub zero_step : (t : Bool) → i < length s → t && all_zero (drop i s) ≡ (t && eqb (get_or s i 0) 0) && all_zero (drop (i + 1) s)
  unfolding all_zero
  zero_step true h = rw (add-one, drop-cons s i 0) refl
  zero_step false h = refl

  pub zero_end : (t : Bool) → length s ≤ i → t && all_zero (drop i s) ≡ t
  unfolding all_zero
  zero_end true h = rw (drop_of_length-le s h) refl
  zero_end false h = refl
