-- The refused part: where it stands, and that it is a part of the list.
use Prim.Native.Nat.{ℕ, ◌+◌, ◌-◌, ◌*◌, ◌/◌, ◌<◌, ◌≤◌}
use mathlib.Core.Path.{◌≡◌, refl, ap, ◌∙◌}
use mathlib.Core.List.{List}
use mathlib.Core.Bool.{Bool, true, false, ◌&&◌, cond}
use native.Mathlib.Nat.{add-sub_cancel_left}
use native.Mathlib.Omega.{arith}
use lib.ListN.{length, take, drop}
use lib.Dec.{ltb}
use denote.Ref.{Bor}
use borrow.Author.Tests.{ltb-true}
use Rattle.record.proofs.Choice.{and_right}
use Rattle.command.specs.Command.{names_command}
use Rattle.command.proofs.Forms.{part_ends}
use Rattle.compiler.specs.Compile.{Compiling, compiling_by}
use Rattle.compiler.specs.Part.{of_command, part_from, part_size, RefusedPart}
use Rattle.compiler.specs.declared.Compiled.{Compiled}
use Rattle.std.specs.Prelude.{Result, Ok, Err}

-- the place of a part is one of the list's, and the part ends in the list
module _ (size : ℕ) (list : List ℕ) (c : Compiling) where
  pub part_within : of_command size list c ≡ true → c.place < length list / size
  part_within e = ltb-true c.place (length list / size) (and_right (names_command c.number) (ltb c.place (length list / size)) e)

  pub part_fits : part_from size list c + part_size size list c ≤ length list
  unfolding part_from part_size
  part_fits = chosen (of_command size list c) part_within
    where
      chosen : (t : Bool) → (t ≡ true → c.place < length list / size) → cond t (c.place * size) 0 + cond t size 0 ≤ length list
      chosen true f = part_ends size (length list) c.place (f refl)
      chosen false f = omega arith

-- start and length by the answer
module _ {E : Type 0} (number_in place_in : E → ℕ) (size : ℕ) (list : List ℕ) (a : Result Compiled E) where
  abbrev Stands : ℕ → ℕ → Type 0
  Stands at n = (at ≡ part_from size list (compiling_by number_in place_in a)) × (n ≡ part_size size list (compiling_by number_in place_in a))

  pub part_accepted : (c : Compiled) → a ≡ Ok c → Stands 0 0
  unfolding part_from part_size compiling_by
  part_accepted c e = rw e (refl, refl)

  module _ (r : E) (place count : ℕ) (named : Bool) (e : a ≡ Err r) (h : named ≡ names_command (number_in r)) (p : place ≡ place_in r) (k : count ≡ length list / size) where
    -- no command of the list is named
    pub part_none : (named && ltb place count) ≡ false → Stands 0 0
    unfolding part_from part_size compiling_by
    part_none f = rw (e, ← h, ← p, ← k, f) (refl, refl)

    -- the command that is named
    pub part_some : (n : ℕ) → n ≡ place_in r → (named && ltb place count) ≡ true → Stands (n * size) size
    unfolding part_from part_size compiling_by
    part_some n q f = rw (q, e, ← h, ← p, ← k, f) (refl, refl)

-- the part from `at` on with n bytes
pub part_is : (size : ℕ) (list r : Bor (List ℕ)) (c : Compiling) (at n : ℕ) → at ≡ part_from size list.now c → n ≡ part_size size list.now c → r.ref_ptr ≡ (list.ref_ptr.0, at + list.ref_ptr.1) → r.now ≡ take (at + n - at) (drop at list.now) → RefusedPart size list r c
part_is size list r c at n e f p q = rw (← e, ← f) (record { place = p; bytes = q ∙ ap (λ (k : ℕ). take k (drop at list.now)) (add-sub_cancel_left at n) })
