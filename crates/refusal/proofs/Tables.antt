-- A table's first number from its refusals and what the checks found, for a loop that goes up.
use Prim.Native.Nat.{ℕ, ◌+◌, ◌<◌, ◌≤◌}
use mathlib.Core.Path.{◌≡◌, refl, sym}
use mathlib.Core.Bool.{Bool, true, false, ◌||◌, true≢false}
use mathlib.Core.List.{List, [], ◌∷◌}
use native.Mathlib.Numerals.{add-one}
use lib.ListN.{length, get_or, drop, drop_of_length-le}
use lib.Seq.{drop-cons}
use Rattle.record.specs.Checks.{any_of, first_of}
use Rattle.refusal.specs.Number.{rows_from, found_by}

-- nothing was found: no row fails
pub none_found : {E : Type 0} (f : E → ℕ) (cs : List (E × Bool)) → any_of (found_by cs) ≡ false → first_of (rows_from f cs) ≡ 0
unfolding any_of first_of rows_from found_by
none_found f [] e = refl
none_found f ((r, true) ∷ cs) e = absurd (true≢false e)
none_found f ((r, false) ∷ cs) e = none_found f cs e

or_chain : (t b x : Bool) → (t || (b || x)) ≡ ((t || b) || x)
or_chain true b x = refl
or_chain false b x = refl

-- x is the i-th check, and there is one
module _ {E : Type 0} (f : E → ℕ) (cs : List (E × Bool)) (i : ℕ) (x : E × Bool) (is : x ≡ get_or cs i x) (h : i < length cs) where
  -- what is found in the rest
  pub found_step : (t : Bool) → (t || any_of (found_by (drop i cs))) ≡ ((t || x.1) || any_of (found_by (drop (i + 1) cs)))
  unfolding any_of found_by
  found_step t = rw (add-one, drop-cons cs i x, sym is) (or_chain t _ _)

  -- the check passes: the rest decides
  pub row_step : x.1 ≡ false → first_of (rows_from f (drop i cs)) ≡ first_of (rows_from f (drop (i + 1) cs))
  unfolding first_of rows_from
  row_step e = rw (add-one, drop-cons cs i x, sym is, e) refl

  -- the check found something: its refusal is the answer
  pub row_stop : x.1 ≡ true → first_of (rows_from f (drop i cs)) ≡ f x.0
  unfolding first_of rows_from
  row_stop e = rw (drop-cons cs i x, sym is, e) refl

module _ {E : Type 0} (f : E → ℕ) (cs : List (E × Bool)) (i : ℕ) where
  pub found_end : (t : Bool) → length cs ≤ i → (t || any_of (found_by (drop i cs))) ≡ t
  unfolding any_of found_by
  found_end true h = refl
  found_end false h = rw (drop_of_length-le) refl

  pub rows_over : length cs ≤ i → first_of (rows_from f (drop i cs)) ≡ 0
  unfolding first_of rows_from
  rows_over h = rw (drop_of_length-le) refl
