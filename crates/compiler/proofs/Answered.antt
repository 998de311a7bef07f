-- An answer and the buffer that goes with it, from the first refusal of any table of checks and any stream.
use Prim.Native.Nat.{ℕ, ◌≤◌}
use mathlib.Core.Path.{◌≡◌, refl, sym, ap₂, ◌∙◌}
use mathlib.Core.List.{List}
use mathlib.Core.Bool.{Bool, true, false, cond}
use native.Mathlib.Omega.{arith}
use lib.ListN.{length, take, drop}
use lib.Seq.{sets, take-append_seam}
use lib.Dec.{eqb}
use borrow.Author.Tests.{eqb-true, eq-eqb, ne_eqb}
use Rattle.record.specs.Checks.{Refusal}
use Rattle.record.proofs.Stores.{sets_over}
use Rattle.screen.specs.declared.Screen.{Screen}
use Rattle.compiler.specs.Compile.{Compiling, refused_by, answered, buffer_with, compiling_of, compiling_by, answer_of}
use Rattle.compiler.specs.declared.Compiled.{Compiled}
use Rattle.std.specs.Prelude.{Result, Ok, Err}
use Rattle.refusal.specs.Number as refusals
use Rattle.refusal.specs.declared.Refused.{Refused}
use Rattle.refusal.proofs.Numbers.{accepted_at, refused_with_at, number_positive}

module _ (r : Refusal) (s : Screen) (size : ℕ) where
  -- its number and place are the refusal's
  pub answered_number : (answered r s size).number ≡ r.number
  answered_number = chosen (eqb r.number 0) refl
    where
      chosen : (b : Bool) → eqb r.number 0 ≡ b
          → (cond b (record { number = 0; place = 0; length = size; depth = s.depth; rotation = s.rotation; flag = s.flag }) (refused_by r.number r.place)).number ≡ r.number
      chosen true e = sym (eqb-true r.number 0 e)
      chosen false e = refl

  pub answered_place : (r.number ≡ 0 → r.place ≡ 0) → (answered r s size).place ≡ r.place
  answered_place nowhere = chosen (eqb r.number 0) refl
    where
      chosen : (b : Bool) → eqb r.number 0 ≡ b
          → (cond b (record { number = 0; place = 0; length = size; depth = s.depth; rotation = s.rotation; flag = s.flag }) (refused_by r.number r.place)).place ≡ r.place
      chosen true e = sym (nowhere (eqb-true r.number 0 e))
      chosen false e = refl

  pub answered_accepted : r.number ≡ 0 → answered r s size ≡ record { number = 0; place = 0; length = size; depth = s.depth; rotation = s.rotation; flag = s.flag }
  answered_accepted e = rw e

-- ---- the answer as a result
abbrev pub ToldBy : Compiling → List ℕ → List ℕ → Result Compiled Refused → List ℕ → Type 0
ToldBy c stream old r new = (compiling_of r ≡ c) × ((r ≡ answer_of c) × (new ≡ buffer_with c stream old))

module _ (r : Refusal) (s : Screen) (size : ℕ) (stream old : List ℕ) where
  pub refused_by_lem : (x : Refused) → r ≡ record { number = refusals.number x.refusal; place = x.place } → ToldBy (answered r s size) stream old (Err x) old
  unfolding compiling_by answer_of
  refused_by_lem x e =
      let p = number_positive x.refusal in
      let z : eqb (refusals.number x.refusal) 0 ≡ false = ne_eqb (refusals.number x.refusal) 0 (λ z. omega (arith, p)) in
      rw (e, z) (refl, (sym (refused_with_at _ x _ x.place refl refl), rw z))

  pub accepted_by : r.number ≡ 0 → length stream ≤ length old → (new : List ℕ) → new ≡ sets old 0 stream
      → ToldBy (answered r s size) stream old (Ok (record { length = size; depth = s.depth; rotation = s.rotation; flag = s.flag })) new
  unfolding compiling_by answer_of
  accepted_by e h new f = rw e (refl, (sym (accepted_at _ 0 0 refl), f ∙ sets_over old stream h))

-- ---- the stream in the length that an answer gives
pub stream_given_lem : (c : Compiling) (stream old : List ℕ) → c.number ≡ 0 → c.length ≡ length stream → take c.length (buffer_with c stream old) ≡ stream
stream_given_lem c stream old e h = ap₂ (λ (n : ℕ) (b : List ℕ). take n b) h (rw (eq-eqb c.number 0 e) refl) ∙ take-append_seam stream (drop (length stream) old)
