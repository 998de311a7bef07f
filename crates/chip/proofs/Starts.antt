-- What an operation of the model is: the table of operations taken apart.
use Prim.Native.Nat.{ℕ}
use mathlib.Core.Path.{◌≡◌, refl, ap}
use mathlib.Core.Bool.{Bool, true, false, cond}
use lib.Dec.{eqb}
use borrow.Author.Tests.{eqb-true, eqb-false}
use Rattle.record.proofs.Choice.{and_left}
use Rattle.chip.specs.Start.{operation, by_blit, source_fits, whole_at, destination_of, startable}
use Rattle.chip.specs.declared.Registers.{Registers}

module _ {P : Type 0} where
  -- a choice by a number that is true
  choice : (n k : ℕ) (x y : Bool) → cond (eqb n k) x y ≡ true → (n ≡ k → P) → (y ≡ true → P) → P
  choice n k x y e p q = by_test (eqb n k) refl e
    where
      by_test : (t : Bool) → eqb n k ≡ t → cond t x y ≡ true → P
      by_test true h e = p (eqb-true n k h)
      by_test false h e = q e

  -- where the table has no value for other numbers, the number is one of the model's
  pub by_operation_lem : (n : ℕ) (write up down transparent pattern keyed fill : Bool) → by_blit n write up down transparent pattern keyed fill false ≡ true
      → (n ≡ 0 → P) → (n ≡ 2 → P) → (n ≡ 3 → P) → (n ≡ 5 → P) → (n ≡ 6 → P) → (n ≡ 7 → P) → (n ≡ 0xC → P) → P
  by_operation_lem n write up down transparent pattern keyed fill e p0 p2 p3 p5 p6 p7 pc =
      choice n 0 _ _ e p0
      (λ e. choice n 2 _ _ e p2
      (λ e. choice n 3 _ _ e p3
      (λ e. choice n 5 _ _ e p5
      (λ e. choice n 6 _ _ e p6
      (λ e. choice n 7 _ _ e p7
      (λ e. choice n 0xC _ _ e pc
      (λ e. absurd (eqb-false 0 1 refl (ap (λ (t : Bool). cond t 1 0) e)))))))))

  -- what a startable operation is
  pub operations : (b : Registers) → startable b ≡ true
      → (operation b ≡ 0 → P) → (operation b ≡ 2 → P) → (operation b ≡ 3 → P) → (operation b ≡ 5 → P) → (operation b ≡ 6 → P) → (operation b ≡ 7 → P)
      → (operation b ≡ 0xC → P) → P
  unfolding startable source_fits
  operations b h = by_operation_lem (operation b) _ _ _ _ _ _ _ (and_left (source_fits b) (whole_at b (destination_of b)) h)
