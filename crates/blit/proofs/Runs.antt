-- Laws of runs of pixels, at every number of bytes.
use mathlib.Core.Path.{◌≡◌, refl, ap, ◌∙◌, subst}
use mathlib.Core.Logic.{◌⊎◌, inl, inr, ⊎_elim}
use mathlib.Core.List.{List}
use Prim.Native.Nat.{ℕ, zero, suc, ◌+◌, ◌*◌, ◌≤◌, ◌<◌}
use native.Mathlib.Decide.{dec_lt}
use native.Mathlib.Nat.{add-suc, add-zero, mul-le-mul_right, suc-mul}
use native.Mathlib.Omega.{arith}
use lib.ListN.{length, get_or}
use Rattle.pixel.specs.Pixel.{get_pixel, put_pixel}
use Rattle.pixel.proofs.Pixels.{length_put, put_above, put_below}
use Rattle.blit.specs.Blit.{pixels}

-- a case split on an order
pub below_or_not : (a n : ℕ) → (a < n) ⊎ (n ≤ a)
below_or_not a n = elim (dec_lt a n) [ yes p ↦ inl p | no q ↦ inr (omega arith) ]

-- one more step of u fits below n steps
pub step_fits : (u i n : ℕ) → i < n → i * u + u ≤ n * u
step_fits u i n h = subst (λ (x : ℕ). x ≤ n * u) (suc-mul i u) (mul-le-mul_right u h)

module _ (bytes : ℕ) (combine : ℕ → ℕ → ℕ) (place : ℕ → ℕ) (fetch : List ℕ → ℕ → ℕ) where
  -- a run keeps the memory's length, and every byte that none of its pixels covers
  pub length_pixels : (n : ℕ) (m : List ℕ) → length (pixels bytes combine place fetch n m) ≡ length m
  unfolding pixels
  length_pixels zero m = refl
  length_pixels (suc n) m = length_put bytes _ _ _ ∙ length_pixels n m

  pub keep_pixels : (n : ℕ) (m : List ℕ) (a : ℕ) → ((i : ℕ) → i < n → (a < place i) ⊎ (place i + bytes ≤ a))
      → get_or (pixels bytes combine place fetch n m) a 0 ≡ get_or m a 0
  unfolding pixels
  keep_pixels zero m a h = refl
  keep_pixels (suc n) m a h =
      ⊎_elim (λ p. put_below bytes _ _ _ a p) (λ p. put_above bytes _ _ _ a p) (h n (omega arith))
      ∙ keep_pixels n m a (λ i p. h i (omega arith))

  -- n pixels, and k more after them
  pub pixels_append : (n k : ℕ) (m : List ℕ) → pixels bytes combine place fetch (n + k) m
      ≡ pixels bytes combine (λ i. place (n + i)) (λ x i. fetch x (n + i)) k (pixels bytes combine place fetch n m)
  unfolding pixels
  pixels_append n zero m = ap (λ (x : ℕ). pixels bytes combine place fetch x m) (add-zero n)
  pixels_append n (suc k) m =
      ap (λ (x : ℕ). pixels bytes combine place fetch x m) (add-suc n k)
      ∙ ap (λ (x : List ℕ). put_pixel bytes x (place (n + k)) (combine (fetch x (n + k)) (get_pixel bytes x (place (n + k))))) (pixels_append n k m)

-- runs with the same places and sources are the same
pub pixels_ext : (bytes : ℕ) (combine : ℕ → ℕ → ℕ) (place place' : ℕ → ℕ) (fetch fetch' : List ℕ → ℕ → ℕ) (n : ℕ) (m : List ℕ)
    → ((i : ℕ) → i < n → place i ≡ place' i) → ((x : List ℕ) (i : ℕ) → i < n → fetch x i ≡ fetch' x i)
    → pixels bytes combine place fetch n m ≡ pixels bytes combine place' fetch' n m
unfolding pixels
pixels_ext bytes combine place place' fetch fetch' zero m ep ef = refl
pixels_ext bytes combine place place' fetch fetch' (suc n) m ep ef =
    rw (pixels_ext bytes combine place place' fetch fetch' n m (λ i h. ep i (omega arith)) (λ x i h. ef x i (omega arith)), ep n (omega arith), ef _ n (omega arith))
