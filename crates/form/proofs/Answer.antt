-- The answer of turning a list, and the target that goes with it, by the way that the checks fall.
use Prim.Native.Nat.{ℕ, ◌*◌, ◌/◌, ◌≤◌}
use mathlib.Core.Path.{◌≡◌, refl, sym, ap, ◌∙◌}
use mathlib.Core.Bool.{Bool, true, false, not, ◌&&◌}
use mathlib.Core.List.{List}
use mathlib.Core.Logic.{⊎_elim}
use native.Mathlib.Nat.{mul-le-mul}
use native.Mathlib.Omega.{arith}
use lib.ListN.{length}
use lib.Seq.{sets}
use lib.Dec.{eqb, ltb}
use borrow.Author.Tests.{ltb-true, ltb-false, not-false, ne_eqb}
use Rattle.record.specs.Lists.{parts_of}
use Rattle.record.specs.Checks.{first_of}
use Rattle.record.proofs.Choice.{tested}
use Rattle.record.proofs.Checks.{row_fails, row_passes}
use Rattle.record.proofs.Stores.{sets_over}
use Rattle.command.specs.Task.{long_form, is_form, is_list}
use Rattle.command.proofs.Forms.{form_is, form_least, form_most, list_is, count_most}
use Rattle.form.specs.Turn.{turned_list, any_stays_long, turn_rows, turning, turned_into, turned_of}
use Rattle.std.specs.Prelude.{Result, Ok, Err}
use Rattle.refusal.specs.Number.{number}
use Rattle.refusal.specs.declared.Refusal.{Refusal}
use Rattle.refusal.specs.declared.Refusal.TheVariants.{ListLength, Room, LongOnly}
use Rattle.refusal.proofs.Numbers.{number_positive}
use Rattle.form.proofs.Lists.{length_turned}
use Rattle.form.proofs.Accepted.{Accepted, accepted_by, into_is}

-- a list that is one has at most 64 records, so its turned length is small
pub length_low : (from to : ℕ) (list : List ℕ) → is_form to ≡ true → is_list from list ≡ true → length list / from * to ≤ 3072
length_low from to list f e = mul-le-mul {n₂ = 64} {m₂ = 48} (count_most from (length list) (list_is from list e).2) (form_most to f)

-- row 28 is asked of a long list
asked_long : (from to : ℕ) (list : List ℕ) → is_form from ≡ true → is_form to ≡ true → (t : Bool) → ltb to from ≡ t → (t && any_stays_long (parts_of long_form list)) ≡ (t && any_stays_long (parts_of from list))
asked_long from to list f g true e = ap (λ (n : ℕ). any_stays_long (parts_of n list)) (sym (⊎_elim (λ p. absurd (omega (arith, ltb-true to from e, form_least to g))) (λ p. p) (form_is from f)))
asked_long from to list f g false e = refl

module _ (from to : ℕ) (list old : List ℕ) where
  abbrev pub TurnedBy : Result ℕ Refusal → List ℕ → Type 0
  TurnedBy r new = (turned_of r ≡ turning from to list (length old)) × (new ≡ turned_into from to list old)

  refused : (r : Refusal) → number r ≡ first_of (turn_rows from to list (length old)) → {x : Result ℕ Refusal} → x ≡ Err r → TurnedBy x old
  unfolding turning turned_into turned_of
  refused r e p =
      let h = number_positive r in
      let z : eqb (number r) 0 ≡ false = ne_eqb (number r) 0 (λ z. omega (arith, h)) in rw (p, ← e, z) (refl, refl)

  pub turned_10 : not (is_list from list) ≡ true → {x : Result ℕ Refusal} → x ≡ Err ListLength → TurnedBy x old
  unfolding turn_rows number
  turned_10 e = refused ListLength (row_fails _ e)

  -- the list is one; its turned length, as the code has it
  module _ (f : is_form from ≡ true) (t : is_form to ≡ true) (e : not (is_list from list) ≡ false) where
    abbrev size : ℕ
    size = length list / from * to

    pub turned_17 : ltb (length old) size ≡ true → {x : Result ℕ Refusal} → x ≡ Err Room → TurnedBy x old
    unfolding turn_rows number
    turned_17 h = refused Room (row_passes 10 _ e (row_fails _ (rw (length_turned from to list f t) h)))

    -- whether a record stays long, as the code asks
    module _ (h : ltb (length old) size ≡ false) (stays : Bool) (a : stays ≡ (ltb to from && any_stays_long (parts_of long_form list))) where
      fits : ltb (length old) (length (turned_list from to list)) ≡ false
      fits = rw (length_turned from to list f t) h

      by_28 : {v : Bool} → stays ≡ v → (ltb to from && any_stays_long (parts_of from list)) ≡ v
      by_28 s = tested (a ∙ asked_long from to list f t (ltb to from) refl) s

      pub turned_28 : stays ≡ true → {x : Result ℕ Refusal} → x ≡ Err LongOnly → TurnedBy x old
      unfolding turn_rows number
      turned_28 s = refused LongOnly (row_passes 10 _ e (row_passes 17 _ fits (row_fails _ (by_28 s))))

      pub turned_0 : stays ≡ false → (new : List ℕ) → new ≡ sets old 0 (turned_list from to list) → TurnedBy (Ok size) new
      unfolding turned_of
      turned_0 s new p =
          let n : length (turned_list from to list) ≡ size = length_turned from to list f t in
          let fit : length (turned_list from to list) ≤ length old = ltb-false (length old) (length (turned_list from to list)) fits in
          let a : Accepted from to list (length old) = record { listed = not-false (is_list from list) e; fits = fit; short = by_28 s } in
          (sym (accepted_by from to list (length old) a ∙ ap (λ (k : ℕ). record { number = 0; length = k }) n), p ∙ sets_over old (turned_list from to list) fit ∙ sym (into_is from to list old a))
