-- "unused values 0": the value of a register that the operation does not use is 0.
use Prim.Native.Nat.{ℕ, zero, suc, ◌-◌, ◌/◌}
use mathlib.Core.Path.{◌≡◌, refl}
use mathlib.Core.List.{List, [], ◌∷◌}
use mathlib.Core.Bool.{false, ◌&&◌}
use lib.ListN.{get_or}
use lib.Dec.{eqb, ltb}
use borrow.Author.Tests.{ne_eqb}
use Rattle.screen.specs.declared.Screen.{Screen}
use Rattle.command.specs.Command.{by_operation, surface_of, source_of, destination_of}
use Rattle.command.specs.Values.{is_negative, command_value, source_value, destination_value, control_value, blit_registers, uses, used_value, blit_values}
use Rattle.command.specs.declared.Command.{Command}
use Rattle.command.proofs.Operation.{each}

-- registers and their values, no more of these, and each 0 that the operation does not use
unfoldable UnusedZero : ℕ → List ℕ → List ℕ → Type 0
UnusedZero operation [] vs = vs ≡ []
UnusedZero operation (n ∷ ns) [] = Unit {0}
UnusedZero operation (n ∷ ns) (v ∷ vs) = (uses operation n ≡ false → v ≡ 0) × UnusedZero operation ns vs

zero_at : (operation : ℕ) (ns vs : List ℕ) → UnusedZero operation ns vs → (k : ℕ) → uses operation (get_or ns k 0) ≡ false → get_or vs k 0 ≡ 0
unfolding UnusedZero
zero_at operation [] vs u k e = rw u
zero_at operation (n ∷ ns) [] u k e = refl
zero_at operation (n ∷ ns) (v ∷ vs) u zero e = u.0 e
zero_at operation (n ∷ ns) (v ∷ vs) u (suc k) e = zero_at operation ns vs u.1 k e

not_used : (operation n v : ℕ) → uses operation n ≡ false → used_value operation n v ≡ 0
not_used operation n v e = rw e

each_zero : (s : Screen) (c : Command) → UnusedZero c.operation blit_registers (blit_values s c)
unfolding blit_values UnusedZero
each_zero s c =
    let u = not_used c.operation in
    (u 0x8008 _, (u 0x800C _, (u 0x8010 _, (u 0x8014 _, (u 0x8018 _, (u 0x801C _, (u 0x8020 _, (u 0x8024 _, (u 0x8000 _, refl)))))))))

pub unused_zero : (s : Screen) (c : Command) (k : ℕ) → uses c.operation (get_or blit_registers k 0) ≡ false → get_or (blit_values s c) k 0 ≡ 0
unused_zero s c k e = zero_at c.operation blit_registers (blit_values s c) (each_zero s c) k e

-- ---- the values with what each operation uses worked out
module _ (s : Screen) (c : Command) where
  -- a table of what is used, taken at each operation
  abbrev op : ℕ
  op = c.operation

  colour_is : used_value op 0x8024 c.colour ≡ by_operation op c.colour 0 0 0 0 0
  colour_is = each op (λ e. rw e) (λ e. rw e) (λ e. rw e) (λ e. rw e) (λ e. rw e) (λ p0 p1 p2 p3 p4. rw (ne_eqb op 0 p0, ne_eqb op 1 p1, ne_eqb op 2 p2, ne_eqb op 3 p3, ne_eqb op 4 p4))

  key_is : used_value op 0x8020 c.key ≡ by_operation op 0 0 0 0 c.key c.key
  key_is = each op (λ e. rw e) (λ e. rw e) (λ e. rw e) (λ e. rw e) (λ e. rw e) (λ p0 p1 p2 p3 p4. rw (ne_eqb op 0 p0, ne_eqb op 1 p1, ne_eqb op 2 p2, ne_eqb op 3 p3, ne_eqb op 4 p4))

  pub source_is : used_value op 0x800C (source_value s c) ≡ source_value s c
  unfolding source_value
  source_is = each op (λ e. rw e) (λ e. rw e) (λ e. rw e) (λ e. rw e) (λ e. rw e) (λ p0 p1 p2 p3 p4. rw (ne_eqb op 0 p0, ne_eqb op 1 p1, ne_eqb op 2 p2, ne_eqb op 3 p3, ne_eqb op 4 p4))

  pub values_are : blit_values s c ≡ command_value s c ∷ source_value s c ∷ destination_value s c ∷ ((surface_of s c).line / 2) ∷ (c.width - 1) ∷ (c.height - 1) ∷ by_operation op 0 0 0 0 c.key c.key ∷ by_operation op c.colour 0 0 0 0 0 ∷ control_value s.depth ∷ []
  unfolding blit_values
  values_are = rw (colour_is, source_is, key_is)

  -- the direction
  pub negative_is : is_negative s c ≡ (eqb op 1 && ltb (source_of s c) (destination_of s c))
  unfolding is_negative
  negative_is = each op (λ e. rw e) (λ e. rw e) (λ e. rw e) (λ e. rw e) (λ e. rw e) (λ p0 p1 p2 p3 p4. rw (ne_eqb op 0 p0, ne_eqb op 1 p1, ne_eqb op 2 p2, ne_eqb op 3 p3, ne_eqb op 4 p4))
