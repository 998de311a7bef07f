-- Number and place of a whole stream as those of the first row that fails: the rows of each record in turn, and 23 at the end.
use Prim.Native.Nat.{ℕ, suc, ◌<◌}
use mathlib.Core.Path.{◌≡◌, refl, sym, ap, ◌∙◌}
use mathlib.Core.Bool.{Bool, true, false}
use mathlib.Core.List.{List, [], ◌∷◌, ◌++◌}
use native.Mathlib.Omega.{arith}
use lib.Dec.{eqb}
use borrow.Author.Tests.{eqb-true, eqb-false}
use Rattle.record.specs.Checks.{Row, row, rows_at, first_of, first_place}
use Rattle.record.specs.declared.Record.{Record}
use Rattle.record.proofs.Checks.{none, first_part, second_part, first_place_lem, second_place, number_at, place_at, numbered_at}
use Rattle.chip.specs.Admit.{admit_rows, refusal, chip_after}
use Rattle.chip.specs.Play.{Playing, run, ending}
use Rattle.chip.specs.declared.Chip.{Chip}
use Rattle.chip.specs.Play.{Running}
use Rattle.chip.proofs.Runs.{run_taken, run_refused}
use Rattle.chip.proofs.Admits.{numbered}
use Rattle.chip.proofs.Answers.{end_refused}

-- playing's number and place are those of the first row that fails
abbrev pub Says : Playing → List Row → Type 0
Says p rows = (p.number ≡ first_of rows) × (p.place ≡ first_place rows)

-- the end of n records
pub table_end : (m : ℕ) (c : Chip) (i n : ℕ) → Says (ending (run m c i []) n) (rows_at n (row 23 c.due.any ∷ []))
unfolding first_of first_place rows_at ending run
table_end m c i n = by_due c.due.any refl
  where
    by_due : (t : Bool) → c.due.any ≡ t → Says (ending (run m c i []) n) (rows_at n (row 23 c.due.any ∷ []))
    by_due true e = (rw e, rw e)
    by_due false e = (rw e, rw e)

-- one record, before the rows of the others
module _ (m : ℕ) (c : Chip) (i : ℕ) (r : Record) (rs : List Record) (n : ℕ) (rest : List Row)
    (others : Says (ending (run m (chip_after c r) (suc i) rs) n) rest) where
  row_passed : refusal m c r ≡ 0 → Says (ending (run m c i (r ∷ rs)) n) (rows_at i (admit_rows m c r) ++ rest)
  unfolding refusal
  row_passed e =
      let next = ap (λ (x : Running). ending x n) (run_taken m c i r rs e) in
      let pass = none (rows_at i (admit_rows m c r)) (numbered_at i (admit_rows m c r) (numbered m c r)) (number_at i (admit_rows m c r) ∙ e) in (
        ap (λ (x : Playing). x.number) next ∙ others.0 ∙ sym (second_part (rows_at i (admit_rows m c r)) rest pass),
        ap (λ (x : Playing). x.place) next ∙ others.1 ∙ sym (second_place (rows_at i (admit_rows m c r)) rest pass),
      )

  row_failed : (refusal m c r ≡ 0 → ⊥) → Says (ending (run m c i (r ∷ rs)) n) (rows_at i (admit_rows m c r) ++ rest)
  unfolding refusal
  row_failed e =
      let stop = ap (λ (x : Running). ending x n) (run_refused m c i r rs e) ∙ end_refused (record { number = refusal m c r; place = i; chip = c }) n e in
      let some : 0 < first_of (admit_rows m c r) = omega arith in
      let some_at : 0 < first_of (rows_at i (admit_rows m c r)) = omega (arith, number_at i (admit_rows m c r)) in (
        ap (λ (x : Playing). x.number) stop ∙ sym (first_part (rows_at i (admit_rows m c r)) rest some_at ∙ number_at i (admit_rows m c r)),
        ap (λ (x : Playing). x.place) stop ∙ sym (first_place_lem (rows_at i (admit_rows m c r)) rest some_at ∙ place_at i (admit_rows m c r) some),
      )

  pub table_step : Says (ending (run m c i (r ∷ rs)) n) (rows_at i (admit_rows m c r) ++ rest)
  table_step = by_test (eqb (refusal m c r) 0) refl
    where
      by_test : (t : Bool) → eqb (refusal m c r) 0 ≡ t → Says (ending (run m c i (r ∷ rs)) n) (rows_at i (admit_rows m c r) ++ rest)
      by_test true q = row_passed (eqb-true (refusal m c r) 0 q)
      by_test false q = row_failed (eqb-false (refusal m c r) 0 q)
