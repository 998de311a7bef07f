-- Facts about depths and dwords, once for every depth.
use mathlib.Core.Path.{◌≡◌, refl, sym, ap, ◌∙◌}
use mathlib.Core.Bool.{Bool, true, false, ◌||◌}
use mathlib.Core.Logic.{◌⊎◌, inl, inr, ⊎_elim}
use Prim.Native.Nat.{ℕ, zero, suc, ◌+◌, ◌-◌, ◌*◌, ◌/◌, ◌%◌, ◌≤◌, ◌<◌}
use native.Mathlib.Omega.{arith}
use native.Mathlib.Nat.{add-mul, div-add-mod, div-add-mod', mod-lt, mul_assoc, mul_comm, mul-div_cancel, mul-le-mul_right, mul-lt-mul_of_pos_right, suc-mul}
use lib.Arith.{digits_mod}
use lib.Dec.{eqb}
use borrow.Author.Tests.{eqb-true}
use Rattle.pixel.specs.Depth.{is_depth, per_dword}

-- a factor of a number that is not 0
pub factor_pos : (e d n : ℕ) → e * d ≡ suc n → 0 < d
factor_pos e zero n h = absurd (omega arith)
factor_pos e (suc d) n h = omega arith

pub factor_le : (e d n : ℕ) → e * d ≡ suc n → d ≤ suc n
factor_le zero d n h = absurd (omega arith)
factor_le (suc e) d n h = omega (arith, suc-mul e d)

-- ---- k pixels of d bits to a dword

pub pos_left : (k d : ℕ) → k * d ≡ 32 → 0 < k
pos_left k d h = factor_pos d k 31 (mul_comm d k ∙ h)

module _ (k d : ℕ) (kd : k * d ≡ 32) where
  -- n pixels are whole dwords and the pixels of the last
  pub split : (n : ℕ) → n * d ≡ 32 * (n / k) + d * (n % k)
  split n = omega (arith, ap (λ (x : ℕ). x * d) (div-add-mod n k), ap (λ (x : ℕ). x * (n / k)) kd)

  -- a pixel counted from the other end of its dword
  pub back : (n : ℕ) → d * (k - 1 - n % k) + d * (n % k) + d ≡ 32
  back n =
      let l : n % k < k = mod-lt n (pos_left k d kd) in
      let e : k - 1 - n % k + n % k + 1 ≡ k = omega arith in
      omega (arith, ap (λ (x : ℕ). d * x) e)

  -- the end of m dwords of pixels, n + 1 pixels back
  pub from_end : (m n : ℕ) → n < k * m → (k * m - 1 - n) * d + n * d + d ≡ 32 * m
  from_end m n h =
      let e : k * m - 1 - n + n + 1 ≡ k * m = omega arith in
      omega (arith, ap (λ (x : ℕ). x * d) e, ap (λ (x : ℕ). x * m) kd)

  -- pixel i of a dword ends within it
  pub within : (i : ℕ) → i < k → i * d + d ≤ 32
  within i h = omega (arith, suc-mul i d, mul-le-mul_right d h)

-- ---- e pixels of d bits to a unit of n + 1 bits

-- what is left of i pixels after whole units is whole pixels
pub left : (i d e n : ℕ) → e * d ≡ suc n → i * d % suc n ≡ i % e * d
left i d e n h =
    let pos : 0 < e = factor_pos d e n (mul_comm d e ∙ h) in
    let below : i % e * d < suc n = rw (← h) (mul-lt-mul_of_pos_right (mod-lt i pos) (factor_pos e d n h)) in
    ap (λ (x : ℕ). x * d % suc n) (sym (div-add-mod' i e))
    ∙ ap (λ (x : ℕ). x % suc n) (add-mul (i / e * e) (i % e) d ∙ ap (λ (x : ℕ). x + i % e * d) (mul_assoc (i / e) e d ∙ ap (λ (x : ℕ). i / e * x) h))
    ∙ digits_mod (i / e) below

-- a pixel of d bits that divide 8 ends within its byte
pub room : (i d e : ℕ) → e * d ≡ 8 → d + i * d % 8 ≤ 8
room i d e h =
    let pos : 0 < e = factor_pos d e 7 (mul_comm d e ∙ h) in
    rw (left i d e 7 h) (omega (arith, suc-mul (i % e) d, mul-le-mul_right d (mod-lt i pos)))

-- ---- the depths

or_true : (a b : Bool) → a || b ≡ true → (a ≡ true) ⊎ (b ≡ true)
or_true true b e = inl refl
or_true false b e = inr e

-- a depth divides a dword, and is 16 or divides a byte
pub record Depth (d : ℕ) : Type 0 where
  pub dword : per_dword d * d ≡ 32
  pub narrow : (d ≡ 16) ⊎ ((e : ℕ) × (e * d ≡ 8))

pub depth : (d : ℕ) → is_depth d ≡ true → Depth d
unfolding is_depth
depth d h =
    ⊎_elim (λ e. rw (eqb-true d 1 e) (record { dword = refl; narrow = inr (8, refl) }))
    (λ h₁. ⊎_elim (λ e. rw (eqb-true d 2 e) (record { dword = refl; narrow = inr (4, refl) }))
    (λ h₂. ⊎_elim (λ e. rw (eqb-true d 4 e) (record { dword = refl; narrow = inr (2, refl) }))
    (λ h₃. ⊎_elim (λ e. rw (eqb-true d 8 e) (record { dword = refl; narrow = inr (1, refl) }))
    (λ e. rw (eqb-true d 16 e) (record { dword = refl; narrow = inl refl }))
    (or_true (eqb d 8) (eqb d 16) h₃))
    (or_true (eqb d 4) (eqb d 8 || eqb d 16) h₂))
    (or_true (eqb d 2) (eqb d 4 || (eqb d 8 || eqb d 16)) h₁))
    (or_true (eqb d 1) (eqb d 2 || (eqb d 4 || (eqb d 8 || eqb d 16))) h)

pub full : (d : ℕ) → is_depth d ≡ true → per_dword d * d ≡ 32
full d h = (depth d h).dword

pub depth_pos : (d : ℕ) → is_depth d ≡ true → 0 < d
depth_pos d h = factor_pos (per_dword d) d 31 (full d h)

pub depth_le : (d : ℕ) → is_depth d ≡ true → d ≤ 16
depth_le d h =
    ⊎_elim (λ e. omega arith) (λ p. omega (arith, factor_le p.0 d 7 p.1)) (depth d h).narrow

-- a depth that is not 16 divides a byte
pub byte_depth : (d : ℕ) → is_depth d ≡ true → (d ≡ 16 → ⊥) → (e : ℕ) × (e * d ≡ 8)
byte_depth d h n = ⊎_elim (λ e. absurd (n e)) (λ p. p) (depth d h).narrow

pub per_dword_pos : (d : ℕ) → is_depth d ≡ true → 0 < per_dword d
per_dword_pos d h = pos_left (per_dword d) d (full d h)

-- pixel i of a dword ends within it
pub in_dword : (d i : ℕ) → is_depth d ≡ true → i < per_dword d → i * d + d ≤ 32
in_dword d i h = within (per_dword d) d (full d h) i

-- pixels to a dword from k * d ≡ 32 alone
pub per_dword_is : (k d : ℕ) → k * d ≡ 32 → per_dword d ≡ k
per_dword_is k d h = ap (λ (n : ℕ). n / d) (sym h) ∙ mul-div_cancel k (factor_pos k d 31 h)
