-- Lines share a byte exactly when an address is a byte of both.
use Prim.Native.Nat.{ℕ, zero, suc, ◌+◌, ◌*◌, ◌<◌, min, max}
use mathlib.Core.Path.{◌≡◌, refl, sym}
use mathlib.Core.Bool.{Bool, true, false, ◌||◌}
use mathlib.Core.Logic.{⊎_elim}
use native.Mathlib.Omega.{arith}
use borrow.Author.Tests.{ltb-true, lt-ltb}
use Rattle.record.proofs.Choice.{or_elim, below_or_not}
use Rattle.command.specs.Sharing.{Lines, meet, any_of, share_byte, InBoth, SharesExactly}

-- tests that hold together are one
pub same_truth : (a b : Bool) → (a ≡ true → b ≡ true) → (b ≡ true → a ≡ true) → a ≡ b
same_truth true b f g = sym (f refl)
same_truth false true f g = g refl
same_truth false false f g = refl

-- ---- one of n numbers passes a test
pub record Passing (n : ℕ) (test : ℕ → Bool) : Type 0 where
  pub k : ℕ
  pub below : k < n
  pub passes : test k ≡ true

pub any_found : (n : ℕ) (test : ℕ → Bool) → any_of n test ≡ true → Passing n test
unfolding any_of
any_found zero test e = let z : ◌≡◌ {A = ℕ} 0 1 = cc in absurd (omega arith)
any_found (suc n) test e =
    or_elim (any_of n test) (test n) e
    (λ p. let w = any_found n test p in record { k = w.k; below = omega arith; passes = w.passes })
    (λ p. record { k = n; below = omega arith; passes = p })

or_left : (a b : Bool) → a ≡ true → (a || b) ≡ true
or_left a b e = rw e

or_right : (a b : Bool) → b ≡ true → (a || b) ≡ true
or_right true b e = refl
or_right false b e = e

pub any_holds : (n : ℕ) (test : ℕ → Bool) (k : ℕ) → k < n → test k ≡ true → any_of n test ≡ true
unfolding any_of
any_holds zero test k h e = absurd (omega arith)
any_holds (suc n) test k h e =
    ⊎_elim
    (λ l. or_left (any_of n test) (test n) (any_holds n test k l e))
    (λ l. let q : k ≡ n = omega arith in or_right (any_of n test) (test n) (rw q at e))
    (below_or_not k n)

-- ---- n bytes from a on and k bytes from b on
pub record Meets (a n b k : ℕ) : Type 0 where
  pub some : 0 < n
  pub any : 0 < k
  pub before : a < b + k
  pub after : b < a + n

pub meet_true : (a n b k : ℕ) → meet a n b k ≡ true → Meets a n b k
meet_true a n b k e =
    let h = ltb-true (max a b) (min (a + n) (b + k)) e in
    record { some = omega arith; any = omega arith; before = omega arith; after = omega arith }

pub meets_true : (a n b k : ℕ) → Meets a n b k → meet a n b k ≡ true
meets_true a n b k h = lt-ltb (max a b) (min (a + n) (b + k)) (omega arith)

-- ---- the claim
shared : (p q : Lines) → share_byte p q ≡ true → InBoth p q
unfolding share_byte
shared p q e =
    let j = any_found p.count _ e in
    let k = any_found q.count _ j.passes in
    let m = meet_true (p.at + j.k * p.line) p.size (q.at + k.k * q.line) q.size k.passes in
    record {
      a = max (p.at + j.k * p.line) (q.at + k.k * q.line);
      first = record { j = j.k; in_lines = j.below; from = omega arith; below = omega arith };
      second = record { j = k.k; in_lines = k.below; from = omega arith; below = omega arith };
    }

sharing : (p q : Lines) → InBoth p q → share_byte p q ≡ true
unfolding share_byte
sharing p q b =
    let f = b.first in
    let g = b.second in
    any_holds p.count _ f.j f.in_lines
    (any_holds q.count _ g.j g.in_lines
    (meets_true (p.at + f.j * p.line) p.size (q.at + g.j * q.line) q.size (record { some = omega arith; any = omega arith; before = omega arith; after = omega arith })))

pub shares_exactly : SharesExactly
shares_exactly p q = (shared p q, sharing p q)
