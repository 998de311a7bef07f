-- A text's number, digit by digit: the number of the digits so far, with the others behind it, is the whole.
use Prim.Native.Nat.{ℕ, zero, suc, ◌+◌, ◌-◌, ◌*◌, ◌/◌, ◌%◌, ◌^◌, ◌<◌, ◌≤◌}
use mathlib.Core.Path.{◌≡◌, refl, ◌∙◌}
use mathlib.Core.Bool.{true, false}
use mathlib.Core.List.{List, [], ◌∷◌}
use native.Mathlib.Nat.{pow-suc, pow-le-pow_right}
use native.Mathlib.Numerals.{add-one}
use native.Mathlib.Omega.{arith}
use lib.ListN.{length, length-append, get_or, drop, drop_of_length-le, take}
use lib.Seq.{drop-cons, drop-append-le, take_all}
use lib.Dec.{leb, eqb}
use borrow.Author.Tests.{le-leb, lt-leb, leb-true, eqb-true, eqb-false}
use Rattle.record.proofs.Choice.{and_left, and_right}
use Rattle.std.specs.Prelude.{Some, None}
use Rattle.io.specs.Digits.{hex_digit_ascii, last_digits}
use Rattle.text.specs.Numbers.{is_digit, digits_behind, number_of}

-- a text that is empty, one that is too long, and the others
pub no_letters : (s : List ℕ) → eqb (length s) 0 ≡ true → None ≡ number_of s
unfolding number_of
no_letters s h = rw (eqb-true (length s) 0 h)

pub too_long : (s : List ℕ) → 9 < length s → None ≡ number_of s
unfolding number_of
too_long s h = rw (le-leb 1 (length s) (omega arith), lt-leb (length s) 9 h)

pub number_start : (s : List ℕ) → eqb (length s) 0 ≡ false → length s ≤ 9 → number_of s ≡ digits_behind 0 (drop 0 s)
unfolding number_of
number_start s h k = rw (le-leb 1 (length s) (omega (arith, eqb-false (length s) 0 h)), le-leb (length s) 9 k)

-- the letter at i is a digit, or none
pub digit_turn : (s : List ℕ) (v n i : ℕ) → v ≡ get_or s i 0 → i < length s → is_digit v ≡ true → digits_behind n (drop i s) ≡ digits_behind (10 * n + (v - 48)) (drop (i + 1) s)
unfolding digits_behind
digit_turn s v n i p h e = rw (add-one, drop-cons s i 0 h, ← p, e)

pub no_digit : (s : List ℕ) (v n i : ℕ) → v ≡ get_or s i 0 → i < length s → is_digit v ≡ false → digits_behind n (drop i s) ≡ None
unfolding digits_behind
no_digit s v n i p h e = rw (drop-cons s i 0 h, ← p, e)

pub digit_range : (v : ℕ) → is_digit v ≡ true → (48 ≤ v) × (v ≤ 57)
digit_range v e = (leb-true 48 v (and_left (leb 48 v) _ e), leb-true v 57 (and_right (leb 48 v) _ e))

pub number_end : (s : List ℕ) (n i : ℕ) → length s ≤ i → digits_behind n (drop i s) ≡ Some n
unfolding digits_behind
number_end s n i h = rw (drop_of_length-le s {i = i} h)

-- i digits are a number below 10 ^ i
pub more_digits : (n d i : ℕ) → n < 10 ^ i → d ≤ 9 → 10 * n + d < 10 ^ (i + 1)
more_digits n d i h l = rw add-one (omega (arith, pow-suc 10 i))

pub few_digits : (n i : ℕ) → n < 10 ^ i → i ≤ 8 → n < 100000000
few_digits n i h l = omega (arith, pow-le-pow_right {n = 10} (omega arith) {i = i} {j = 8} l)

-- ---- a number's last digits
length_digits : (b k n : ℕ) → length (last_digits b k n) ≡ k
length_digits b zero n = refl
length_digits b (suc k) n = length-append (last_digits b k (n / b)) (hex_digit_ascii (n % b) ∷ []) ∙ omega (arith, length_digits b k (n / b))

-- the last w of them
fewer_digits : (b w k n : ℕ) → w ≤ k → drop (k - w) (last_digits b k n) ≡ last_digits b w n
fewer_digits b zero k n h = drop_of_length-le (last_digits b k n) {i = k - 0} (omega (arith, length_digits b k n))
fewer_digits b (suc w) zero n h = absurd (omega arith)
fewer_digits b (suc w) (suc k) n h =
    let e : suc k - suc w ≡ k - w = omega arith in
    let high = last_digits b k (n / b) in
    let more : k - w ≤ length high = omega (arith, length_digits b k (n / b)) in
    rw (e, drop-append-le (k - w) high (hex_digit_ascii (n % b) ∷ []) more, fewer_digits b w k (n / b) (omega arith))

pub digits_end : (b w k n : ℕ) (s : List ℕ) → w ≤ k → s ≡ last_digits b k n → take (k - (k - w)) (drop (k - w) s) ≡ last_digits b w n
digits_end b w k n s h e =
    rw (e, fewer_digits b w k n h) (take_all (k - (k - w)) (last_digits b w n) (omega (arith, length_digits b w n)))
