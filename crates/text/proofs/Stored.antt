-- Texts stored one behind the other, and numbers in decimal.
use Prim.Native.Nat.{ℕ, zero, suc, ◌+◌, ◌-◌, ◌*◌, ◌/◌, ◌^◌, ◌<◌, ◌≤◌, min}
use mathlib.Core.Path.{◌≡◌, refl, sym, ap, subst, ◌∙◌}
use mathlib.Core.Bool.{Bool, true, false}
use mathlib.Core.List.{List, [], ◌∷◌, ◌++◌}
use native.Mathlib.Nat.{add-zero, pow-suc}
use native.Mathlib.Numerals.{add-one}
use native.Mathlib.Omega.{arith}
use borrow.Author.Tests.{lt-ltb, le-ltb, leb-true, leb-false}
use lib.Dec.{leb}
use lib.ListN.{get_or-eq_default, length, length-append, set, get_or, drop, drop_of_length-le, take}
use lib.Seq.{sets, length-sets, drop-cons, length-take-le, set_out}
use Rattle.io.specs.Counts.{IsPrefixLen}
use Rattle.io.specs.Digits.{last_digits, IsDigitCount}
use Rattle.record.proofs.Stores.{sets_append}
use Rattle.text.specs.Text.{letters, last_decimal_digits, decimal, Stored}
use Rattle.text.specs.Refusal.{reasons, reason}

-- a count within a list
pub counts : (n : ℕ) (l : List ℕ) → n ≤ length l → IsPrefixLen n l
counts n l h = (h, sym (length-take-le n l h))

-- ---- a text, letter by letter
-- past the end nothing is stored
sets_out : (l vs : List ℕ) (i : ℕ) → length l ≤ i → sets l i vs ≡ l
sets_out l [] i h = refl
sets_out l (a ∷ vs) i h = rw (set_out l i a h) (sets_out l vs (suc i) (omega arith))

-- what is left to store, done to the text now, is the whole done to the text at entry
pub put_start : (old vs : List ℕ) (at : ℕ) → sets old at vs ≡ sets old (at + 0) (drop 0 vs)
put_start old vs at = rw add-zero

pub put_turn : (old l vs : List ℕ) (at n room i : ℕ) → n ≡ min (length vs) room → i < n → sets old at vs ≡ sets l (at + i) (drop i vs) → sets old at vs ≡ sets (set l (at + i) (get_or vs i 0)) (at + (i + 1)) (drop (i + 1) vs)
put_turn old l vs at n room i m h e =
    let more : i < length vs = omega arith in
    let s : at + (i + 1) ≡ suc (at + i) = omega arith in
    e ∙ ap (λ (r : List ℕ). sets l (at + i) r) (drop-cons vs i 0 more) ∙ (rw (s, add-one))

-- either nothing is left, or there is no room for it
put_last : (b : Bool) (l vs : List ℕ) (at i : ℕ) → leb (length vs) i ≡ b → min (length vs) (length l - at) ≤ i → sets l (at + i) (drop i vs) ≡ l
put_last true l vs at i e h = ap (λ (r : List ℕ). sets l (at + i) r) (drop_of_length-le vs {i = i} (leb-true (length vs) i e))
put_last false l vs at i e h = sets_out l (drop i vs) (at + i) (omega (arith, leb-false (length vs) i e))

pub put_end : (old l vs : List ℕ) (at n i : ℕ) → at ≤ length old → length l ≡ length old → n ≡ min (length vs) (length old - at) → n ≤ i → sets old at vs ≡ sets l (at + i) (drop i vs) → Stored old at vs l (at + n)
put_end old l vs at n i h s m k e =
    record {
      text = sym (e ∙ put_last (leb (length vs) i) l vs at i refl (omega arith));
      next = omega arith;
      within = counts _ _ (omega arith);
    }

pub put_none : (old vs : List ℕ) (at : ℕ) → length old < at → Stored old at vs old (length old)
put_none old vs at h = record { text = sym (sets_out old vs at (omega arith)); next = omega arith; within = counts _ _ (omega arith) }

-- ---- texts one behind the other
both_stored : (b : Bool) (l x y : List ℕ) (at e : ℕ) → leb (at + length x) (length l) ≡ b → e ≡ min (at + length x) (length l) → sets (sets l at x) e y ≡ sets l at (x ++ y)
both_stored true l x y at e t h =
    let f : e ≡ at + length x = omega (arith, leb-true (at + length x) (length l) t) in
    rw f (sym (sets_append l at x y))
both_stored false l x y at e t h =
    sets_out (sets l at x) y e (rw length-sets (omega (arith, leb-false (at + length x) (length l) t)))
    ∙ sym (sets_append l at x y ∙ sets_out (sets l at x) y (at + length x) (rw length-sets (omega (arith, leb-false (at + length x) (length l) t))))

pub stored_length : {old x new : List ℕ} {at e : ℕ} → Stored old at x new e → length new ≡ length old
stored_length {old} {x} {new} {at} {e} p = ap (λ (s : List ℕ). length s) p.text ∙ length-sets old at x

pub stored_as : {old x y new : List ℕ} {at e : ℕ} → x ≡ y → Stored old at x new e → Stored old at y new e
stored_as {old} {x} {y} {new} {at} {e} p q = subst (λ (s : List ℕ). Stored old at s new e) p q

pub then_stored : {old x l y new : List ℕ} {at e f : ℕ} → Stored old at x l e → Stored l e y new f → Stored old at (x ++ y) new f
then_stored {old} {x} {l} {y} {new} {at} {e} {f} p q =
    let same : length l ≡ length old = stored_length p in
    record {
      text = q.text ∙ ap (λ (s : List ℕ). sets s e y) p.text ∙ both_stored (leb (at + length x) (length old)) old x y at e refl p.next;
      next = rw length-append (omega (arith, p.next, q.next));
      within = q.within;
    }

-- ---- decimal
power_above : (k : ℕ) → 1 ≤ 10 ^ k
power_above zero = omega arith
power_above (suc k) = omega (arith, pow-suc 10 k, power_above k)

-- the fewest digits, of a number of at most suc m
digits_last : (m k n : ℕ) → n < 10 ^ suc m → IsDigitCount 10 1 n k → last_digits 10 k n ≡ last_decimal_digits (suc m) n
unfolding last_decimal_digits
digits_last m zero n h f = absurd (omega arith)
digits_last m (suc zero) n h f =
    let low : n < 10 = f.1 in
    rw (lt-ltb n 10 low)
digits_last zero (suc (suc k)) n h f =
    let fewer : suc (suc k) - 1 ≡ suc k = omega arith in
    let above : 10 ^ suc k ≤ n = rw fewer at (f.2 (omega arith)) in
    absurd (omega (arith, pow-suc 10 k, power_above k))
digits_last (suc m) (suc (suc k)) n h f =
    let fewer : suc (suc k) - 1 ≡ suc k = omega arith in
    let less : suc k - 1 ≡ k = omega arith in
    let above : 10 ^ suc k ≤ n = rw fewer at (f.2 (omega arith)) in
    let here : 10 ^ suc k ≡ 10 ^ k * 10 = pow-suc 10 k in
    let next : 10 ^ suc (suc k) ≡ 10 ^ suc k * 10 = pow-suc 10 (suc k) in
    let most : 10 ^ suc (suc m) ≡ 10 ^ suc m * 10 = pow-suc 10 (suc m) in
    let high : 10 ≤ n = omega (arith, power_above k) in
    rw (le-ltb n 10 high, digits_last m (suc k) (n / 10) (omega arith) (omega arith, omega (arith, f.1), λ _. rw less (omega arith)))

-- the digits that are spelt at a list's start
pub decimal_spelt : (k n : ℕ) (s : List ℕ) → n < 2 ^ 64 → IsDigitCount 10 1 n k → take k s ≡ last_digits 10 k n → take k s ≡ decimal n
unfolding decimal
decimal_spelt k n s h f e = e ∙ digits_last 19 k n (omega arith) f

-- ---- a refusal's reason
pub no_reason : (n : ℕ) → 29 < n → [] ≡ reason n
unfolding reason
no_reason n h = ap letters (sym (get_or-eq_default reasons "" {n = n} (omega arith)))
