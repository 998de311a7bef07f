-- A value for each operation, taken at the operation's number.
use Prim.Native.Nat.{ℕ}
use mathlib.Core.Path.{◌≡◌, refl}
use mathlib.Core.Bool.{Bool, true, false}
use native.Mathlib.Omega.{arith}
use lib.Dec.{eqb}
use borrow.Author.Tests.{eq-eqb, ne_eqb, eqb-true, eqb-false}
use Rattle.command.specs.Command.{by_operation}

module _ {A : Type 0} (n : ℕ) (fill move write pattern keyed transparent : A) where
  pub by_fill : n ≡ 0 → by_operation n fill move write pattern keyed transparent ≡ fill
  by_fill e = rw (eq-eqb n 0 e)

  pub by_move : n ≡ 1 → by_operation n fill move write pattern keyed transparent ≡ move
  by_move e = rw (ne_eqb n 0 (λ z. omega arith), eq-eqb n 1 e)

  pub by_write : n ≡ 2 → by_operation n fill move write pattern keyed transparent ≡ write
  by_write e = rw (ne_eqb n 0 (λ z. omega arith), ne_eqb n 1 (λ z. omega arith), eq-eqb n 2 e)

  pub by_pattern : n ≡ 3 → by_operation n fill move write pattern keyed transparent ≡ pattern
  by_pattern e = rw (ne_eqb n 0 (λ z. omega arith), ne_eqb n 1 (λ z. omega arith), ne_eqb n 2 (λ z. omega arith), eq-eqb n 3 e)

  pub by_keyed : n ≡ 4 → by_operation n fill move write pattern keyed transparent ≡ keyed
  by_keyed e = rw (ne_eqb n 0 (λ z. omega arith), ne_eqb n 1 (λ z. omega arith), ne_eqb n 2 (λ z. omega arith), ne_eqb n 3 (λ z. omega arith), eq-eqb n 4 e)

  -- any other number
  pub by_other : (n ≡ 0 → ⊥) → (n ≡ 1 → ⊥) → (n ≡ 2 → ⊥) → (n ≡ 3 → ⊥) → (n ≡ 4 → ⊥) → by_operation n fill move write pattern keyed transparent ≡ transparent
  by_other p0 p1 p2 p3 p4 = rw (ne_eqb n 0 p0, ne_eqb n 1 p1, ne_eqb n 2 p2, ne_eqb n 3 p3, ne_eqb n 4 p4)

  pub by_transparent : n ≡ 5 → by_operation n fill move write pattern keyed transparent ≡ transparent
  by_transparent e = by_other (λ z. omega arith) (λ z. omega arith) (λ z. omega arith) (λ z. omega arith) (λ z. omega arith)

-- a number is another, or it is not
pub is_or_not : {P : Type 0} (n k : ℕ) → (n ≡ k → P) → ((n ≡ k → ⊥) → P) → P
is_or_not {P} n k is other = by_test (eqb n k) refl
  where
    by_test : (t : Bool) → eqb n k ≡ t → P
    by_test true e = is (eqb-true n k e)
    by_test false e = other (eqb-false n k e)

-- each operation in turn, and any other number
pub each : {P : Type 0} (n : ℕ) → (n ≡ 0 → P) → (n ≡ 1 → P) → (n ≡ 2 → P) → (n ≡ 3 → P) → (n ≡ 4 → P)
    → ((n ≡ 0 → ⊥) → (n ≡ 1 → ⊥) → (n ≡ 2 → ⊥) → (n ≡ 3 → ⊥) → (n ≡ 4 → ⊥) → P) → P
each n fill move write pattern keyed transparent =
    is_or_not n 0 fill
    (λ p0. is_or_not n 1 move
    (λ p1. is_or_not n 2 write
    (λ p2. is_or_not n 3 pattern
    (λ p3. is_or_not n 4 keyed
    (λ p4. transparent p0 p1 p2 p3 p4)))))

-- a table with one value for all operations but one
module _ {A : Type 0} (n : ℕ) (a b : A) where
  pub not_fill : (n ≡ 0 → ⊥) → by_operation n b a a a a a ≡ a
  not_fill h = each n (λ e. absurd (h e)) (by_move n b a a a a a) (by_write n b a a a a a) (by_pattern n b a a a a a) (by_keyed n b a a a a a) (by_other n b a a a a a)

  pub not_move : (n ≡ 1 → ⊥) → by_operation n a b a a a a ≡ a
  not_move h = each n (by_fill n a b a a a a) (λ e. absurd (h e)) (by_write n a b a a a a) (by_pattern n a b a a a a) (by_keyed n a b a a a a) (by_other n a b a a a a)

  pub not_write : (n ≡ 2 → ⊥) → by_operation n a a b a a a ≡ a
  not_write h = each n (by_fill n a a b a a a) (by_move n a a b a a a) (λ e. absurd (h e)) (by_pattern n a a b a a a) (by_keyed n a a b a a a) (by_other n a a b a a a)
