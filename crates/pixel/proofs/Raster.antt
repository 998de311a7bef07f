-- Laws of raster codes, at every width of n bits.
use mathlib.Core.Path.{◌≡◌, refl, sym, ap, ap₂, ◌∙◌}
use Prim.Native.Nat.{ℕ, zero, suc, ◌+◌, ◌*◌, ◌/◌, ◌%◌, ◌^◌, ◌<◌}
use native.Mathlib.Nat.{div-one, mod-eq_of_lt, mod-lt, mod-one, mul_assoc, mul_comm, pow-suc, zero-add}
use native.Mathlib.Numerals.{one-add}
use native.Mathlib.Omega.{arith}
use lib.Arith.{digits_div, digits_mod, mod-mul}
use lib.Dec.{lit<}
use lib.Pow.{pow_pos, shr-shr}
use Rattle.pixel.specs.Raster.{bit, bitwise, raster}

two : 0 < 2
two = lit< tt

pub bit_lt : (x k : ℕ) → bit x k < 2
bit_lt x k = mod-lt (x / 2 ^ k) two

-- ---- each result bit is bit (2s + d) of the code

lower : (x k : ℕ) → bit (x / 2) k ≡ bit x (suc k)
lower x k = ap (λ (y : ℕ). y % 2) (shr-shr x 1 k ∙ ap (λ (j : ℕ). x / 2 ^ j) (one-add k))

pub rule : (n c s d k : ℕ) → k < n → bit (raster n c s d) k ≡ bit c (2 * bit s k + bit d k)
unfolding bitwise
rule zero c s d k h = absurd (omega arith)
rule (suc n) c s d zero h =
    ap (λ (x : ℕ). x % 2) (div-one _) ∙ digits_mod (raster n c (s / 2) (d / 2)) (bit_lt c (2 * (s % 2) + d % 2)) ∙ rw (div-one s, div-one d)
rule (suc n) c s d (suc k) h =
    sym (lower _ k) ∙ ap (λ (x : ℕ). bit x k) (digits_div (raster n c (s / 2) (d / 2)) (bit_lt c (2 * (s % 2) + d % 2)))
    ∙ rule n c (s / 2) (d / 2) k (omega arith)
    ∙ ap₂ (λ (x y : ℕ). bit c (2 * x + y)) (lower s k) (lower d k)

pub raster_lt : (n c s d : ℕ) → raster n c s d < 2 ^ n
unfolding bitwise
raster_lt zero c s d = lit< tt
raster_lt (suc n) c s d =
    rw (pow-suc 2 n) (omega (arith, raster_lt n c (s / 2) (d / 2), bit_lt c (2 * (s % 2) + d % 2)))

-- ---- two codes in whole numbers

-- functions that agree on digits
same_digits : {f g : ℕ → ℕ → ℕ} → ((x y : ℕ) → x < 2 → y < 2 → f x y ≡ g x y) → (n s d : ℕ) → bitwise n f s d ≡ bitwise n g s d
unfolding bitwise
same_digits e zero s d = refl
same_digits e (suc n) s d =
    ap₂ (λ (x y : ℕ). x * 2 + y) (same_digits e n (s / 2) (d / 2)) (e (s % 2) (d % 2) (mod-lt s two) (mod-lt d two))

source : (n s d : ℕ) → bitwise n (λ x y. x) s d ≡ s % 2 ^ n
unfolding bitwise
source zero s d = sym (mod-one s)
source (suc n) s d =
    ap (λ (x : ℕ). x * 2 + s % 2) (source n (s / 2) (d / 2)) ∙ sym (ap (λ (p : ℕ). s % p) (pow-suc 2 n) ∙ mod-mul s (pow_pos n) two)

twelve : (x y : ℕ) → x < 2 → y < 2 → bit 12 (2 * x + y) ≡ x
twelve zero zero hx hy = refl
twelve zero (suc zero) hx hy = refl
twelve (suc zero) zero hx hy = refl
twelve (suc zero) (suc zero) hx hy = refl
twelve zero (suc (suc y)) hx hy = absurd (omega arith)
twelve (suc zero) (suc (suc y)) hx hy = absurd (omega arith)
twelve (suc (suc x)) y hx hy = absurd (omega arith)

-- code 12 copies the source
pub copies : (n s d : ℕ) → raster n 12 s d ≡ s % 2 ^ n
copies n s d = same_digits twelve n s d ∙ source n s d

pub copies_whole : (n s d : ℕ) → s < 2 ^ n → raster n 12 s d ≡ s
copies_whole n s d h = copies n s d ∙ mod-eq_of_lt h

six : (x y : ℕ) → x < 2 → y < 2 → bit 6 (2 * x + y) ≡ (x + y) % 2
six zero zero hx hy = refl
six zero (suc zero) hx hy = refl
six (suc zero) zero hx hy = refl
six (suc zero) (suc zero) hx hy = refl
six zero (suc (suc y)) hx hy = absurd (omega arith)
six (suc zero) (suc (suc y)) hx hy = absurd (omega arith)
six (suc (suc x)) y hx hy = absurd (omega arith)

-- code 6 is exclusive or: a result bit is set where the two bits differ
pub exclusive : (n s d k : ℕ) → k < n → bit (raster n 6 s d) k ≡ (bit s k + bit d k) % 2
exclusive n s d k h = rule n 6 s d k h ∙ six (bit s k) (bit d k) (bit_lt s k) (bit_lt d k)

-- ---- low bits and high bits apart

twice : (p s : ℕ) → p * 2 * s ≡ p * s * 2
twice p s = mul_assoc p 2 s ∙ ap (λ (k : ℕ). p * k) (mul_comm 2 s) ∙ sym (mul_assoc p s 2)

halved : (k x s : ℕ) → (x + 2 ^ suc k * s) / 2 ≡ x / 2 + 2 ^ k * s
halved k x s = rw (pow-suc 2 k, twice (2 ^ k) s) (omega arith)

lowest : (k x s : ℕ) → (x + 2 ^ suc k * s) % 2 ≡ x % 2
lowest k x s = rw (pow-suc 2 k, twice (2 ^ k) s) (omega arith)

-- k low bits x and y, and n bits s and d above them
pub raster_append : (k n c x y s d : ℕ) → x < 2 ^ k → y < 2 ^ k
    → raster (k + n) c (x + 2 ^ k * s) (y + 2 ^ k * d) ≡ raster k c x y + 2 ^ k * raster n c s d
unfolding bitwise
raster_append zero n c x y s d hx hy =
    let a : x + 1 * s ≡ s = omega arith in
    let b : y + 1 * d ≡ d = omega arith in
    rw (zero-add n, a, b) (omega arith)
raster_append (suc k) n c x y s d hx hy =
    let p : 2 ^ suc k ≡ 2 ^ k * 2 = pow-suc 2 k in
    let more : suc k + n ≡ suc (k + n) = omega arith in
    let low : bit c (2 * ((x + 2 ^ suc k * s) % 2) + (y + 2 ^ suc k * d) % 2) ≡ bit c (2 * (x % 2) + y % 2) =
    ap₂ (λ (u v : ℕ). bit c (2 * u + v)) (lowest k x s) (lowest k y d) in
    let high : raster (k + n) c ((x + 2 ^ suc k * s) / 2) ((y + 2 ^ suc k * d) / 2) ≡ raster k c (x / 2) (y / 2) + 2 ^ k * raster n c s d =
    ap₂ (raster (k + n) c) (halved k x s) (halved k y d) ∙ raster_append k n c (x / 2) (y / 2) s d (omega arith) (omega arith) in
    rw more (ap₂ (λ (u v : ℕ). u * 2 + v) high low ∙ rw (p, twice (2 ^ k) (raster n c s d)) (omega arith))
