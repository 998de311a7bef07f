-- A value for each operation, as code that compares the operation's number comes to it.
use Prim.Native.Nat.{ℕ, ◌<◌, ◌≤◌}
use mathlib.Core.Path.{◌≡◌}
use native.Mathlib.Omega.{arith}
use Rattle.command.specs.Command.{by_operation}
use Rattle.command.proofs.Operation.{by_fill, by_move, by_write, by_pattern, by_keyed, by_other, each}

module _ {A : Type 0} (n : ℕ) where
  pub up_to_two : (a p k t : A) → n ≤ 2 → by_operation n a a a p k t ≡ a
  up_to_two a p k t h = each n (by_fill n a a a p k t) (by_move n a a a p k t) (by_write n a a a p k t) (λ e. absurd (omega arith)) (λ e. absurd (omega arith)) (λ p0 p1 p2 p3 p4. absurd (omega arith))

  pub past_two : (f m w a : A) → 2 < n → by_operation n f m w a a a ≡ a
  past_two f m w a h = each n (λ e. absurd (omega arith)) (λ e. absurd (omega arith)) (λ e. absurd (omega arith)) (by_pattern n f m w a a a) (by_keyed n f m w a a a) (by_other n f m w a a a)
