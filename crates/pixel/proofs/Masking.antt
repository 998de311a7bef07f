-- All bits at once are the rule bit by bit: one argument over the number of bits.
use mathlib.Core.Path.{◌≡◌, refl, ap, ap₂, ◌∙◌}
use Prim.Native.Nat.{ℕ, zero, suc, ◌+◌, ◌-◌, ◌*◌, ◌/◌, ◌%◌, ◌^◌, ◌<◌}
use native.Mathlib.Nat.{pow-suc}
use native.Mathlib.Omega.{arith}
use lib.Arith.{digits_div, digits_mod}
use lib.Bits.{bit_and, bit_xor, and_mod, and_shr, and_zero_l, and_zero_r, xor_mod, xor_self, xor_shr, xor_zero_r}
use lib.Pow.{pow_pos}
use Rattle.pixel.specs.Raster.{bit, bitwise, raster}
use Rattle.pixel.specs.Masking.{mask_of, chosen, masked, AtOnce, ByBytes}
use Rattle.pixel.proofs.Raster.{bit_lt, raster_append}

-- ---- choosing goes digit by digit

chosen_half : (x a b : ℕ) → chosen x a b / 2 ≡ chosen (x / 2) (a / 2) (b / 2)
unfolding chosen
chosen_half x a b = xor_shr b _ 1 ∙ ap (bit_xor (b / 2)) (and_shr x _ 1 ∙ ap (bit_and (x / 2)) (xor_shr a b 1))

chosen_low : (x a b : ℕ) → chosen x a b % 2 ≡ chosen (x % 2) (a % 2) (b % 2)
unfolding chosen
chosen_low x a b = xor_mod b _ 1 ∙ ap (bit_xor (b % 2)) (and_mod x _ 1 ∙ ap (bit_and (x % 2)) (xor_mod a b 1))

chosen_same : (x a : ℕ) → chosen x a a ≡ a
unfolding chosen
chosen_same x a = ap (λ (k : ℕ). bit_xor a (bit_and x k)) (xor_self a) ∙ ap (bit_xor a) (and_zero_r x) ∙ xor_zero_r a

-- a digit chooses
chosen_0 : (a b : ℕ) → chosen 0 a b ≡ b
unfolding chosen
chosen_0 a b = ap (bit_xor b) (and_zero_l (bit_xor a b)) ∙ xor_zero_r b

chosen_1 : (a b : ℕ) → a < 2 → b < 2 → chosen 1 a b ≡ a
unfolding chosen
chosen_1 zero zero ha hb = refl
chosen_1 zero (suc zero) ha hb = refl
chosen_1 (suc zero) zero ha hb = refl
chosen_1 (suc zero) (suc zero) ha hb = refl
chosen_1 zero (suc (suc b)) ha hb = absurd (omega arith)
chosen_1 (suc zero) (suc (suc b)) ha hb = absurd (omega arith)
chosen_1 (suc (suc a)) b ha hb = absurd (omega arith)

-- ---- so do the four masks

-- what masks p, q, u, v make of s and d
abbrev tree : ℕ → ℕ → ℕ → ℕ → ℕ → ℕ → ℕ
tree p q u v s d = chosen s (chosen d v u) (chosen d q p)

tree_half : (p q u v s d : ℕ) → tree p q u v s d / 2 ≡ tree (p / 2) (q / 2) (u / 2) (v / 2) (s / 2) (d / 2)
tree_half p q u v s d = chosen_half s _ _ ∙ ap₂ (chosen (s / 2)) (chosen_half d v u) (chosen_half d q p)

tree_low : (p q u v s d : ℕ) → tree p q u v s d % 2 ≡ tree (p % 2) (q % 2) (u % 2) (v % 2) (s % 2) (d % 2)
tree_low p q u v s d = chosen_low s _ _ ∙ ap₂ (chosen (s % 2)) (chosen_low d v u) (chosen_low d q p)

-- two digits choose bit (2s + d) of the code
tree_bit : (c x y : ℕ) → x < 2 → y < 2 → tree (bit c 0) (bit c 1) (bit c 2) (bit c 3) x y ≡ bit c (2 * x + y)
tree_bit c zero zero hx hy = chosen_0 _ _ ∙ chosen_0 _ _
tree_bit c zero (suc zero) hx hy = chosen_0 _ _ ∙ chosen_1 _ _ (bit_lt c 1) (bit_lt c 0)
tree_bit c (suc zero) zero hx hy = ap₂ (chosen 1) (chosen_0 _ _) (chosen_0 _ _) ∙ chosen_1 _ _ (bit_lt c 2) (bit_lt c 0)
tree_bit c (suc zero) (suc zero) hx hy =
    ap₂ (chosen 1) (chosen_1 _ _ (bit_lt c 3) (bit_lt c 2)) (chosen_1 _ _ (bit_lt c 1) (bit_lt c 0)) ∙ chosen_1 _ _ (bit_lt c 3) (bit_lt c 1)
tree_bit c zero (suc (suc y)) hx hy = absurd (omega arith)
tree_bit c (suc zero) (suc (suc y)) hx hy = absurd (omega arith)
tree_bit c (suc (suc x)) y hx hy = absurd (omega arith)

-- ---- a mask of one bit more

ones_more : (n b : ℕ) → b < 2 → (2 ^ suc n - 1) * b ≡ (2 ^ n - 1) * b * 2 + b
ones_more n zero h = omega arith
ones_more n (suc zero) h = rw (pow-suc 2 n) (omega (arith, pow_pos n))
ones_more n (suc (suc b)) h = absurd (omega arith)

mask_half : (n c k : ℕ) → mask_of (suc n) c k / 2 ≡ mask_of n c k
unfolding mask_of
mask_half n c k = ap (λ (x : ℕ). x / 2) (ones_more n (bit c k) (bit_lt c k)) ∙ digits_div _ (bit_lt c k)

mask_low : (n c k : ℕ) → mask_of (suc n) c k % 2 ≡ bit c k
unfolding mask_of
mask_low n c k = ap (λ (x : ℕ). x % 2) (ones_more n (bit c k) (bit_lt c k)) ∙ digits_mod _ (bit_lt c k)

mask_none : (c k : ℕ) → mask_of 0 c k ≡ 0
unfolding mask_of
mask_none c k = omega arith

-- ---- the claims

halves : (v : ℕ) → v ≡ v / 2 * 2 + v % 2
halves v = omega arith

pub at_once : AtOnce
unfolding masked bitwise
at_once zero c s d =
    rw (mask_none c 0, mask_none c 1, mask_none c 2, mask_none c 3, chosen_same d 0) (chosen_same s 0)
at_once (suc n) c s d =
    let m : ℕ → ℕ = mask_of (suc n) c in
    let high : tree (m 0) (m 1) (m 2) (m 3) s d / 2 ≡ raster n c (s / 2) (d / 2) =
    tree_half (m 0) (m 1) (m 2) (m 3) s d ∙ rw (mask_half n c 0, mask_half n c 1, mask_half n c 2, mask_half n c 3) (at_once n c (s / 2) (d / 2)) in
    let low : tree (m 0) (m 1) (m 2) (m 3) s d % 2 ≡ bit c (2 * (s % 2) + d % 2) =
    tree_low (m 0) (m 1) (m 2) (m 3) s d ∙ rw (mask_low n c 0, mask_low n c 1, mask_low n c 2, mask_low n c 3) (tree_bit c (s % 2) (d % 2) (omega arith) (omega arith)) in
    halves _ ∙ ap₂ (λ (x y : ℕ). x * 2 + y) high low

pub by_bytes : ByBytes
by_bytes n c x y s d hx hy = raster_append 8 n c x y s d hx hy
