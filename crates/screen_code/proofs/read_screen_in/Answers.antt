use Prim.Native.Nat.{ℕ}
use mathlib.Core.Path.{◌≡◌, ap, sym, ◌∙◌}
use mathlib.Core.List.{List}
use mathlib.Core.Bool.{Bool, true, false, not}
use Rattle.std.specs.Prelude.{Result, Ok, Err}
use Rattle.std.proofs.lemmas.Result.{err_from_is_err_and}
use Rattle.record.specs.Checks.{first_of}
use Rattle.record.proofs.Checks.{row_fails}
use Rattle.record.proofs.Choice.{tested}
use Rattle.refusal.specs.Number.{number, number_of, number_by}
use Rattle.refusal.specs.declared.Refusal.{Refusal}
use Rattle.refusal.specs.declared.Refusal.TheVariants.{ScreenRecord}
use Rattle.screen.specs.Screen.{well_formed, fields_of, field_rows, screen_rows, screen_of}
use Rattle.screen.specs.declared.Screen.{Screen}
use Rattle.screen.proofs.Read.{form_length, form_passes, accepts, refuses, number_is}
use Rattle.screen_code.proofs.read_screen_in.Goals as goal

-- the answer's number with the answer
numbered : (m : ℕ) (b : List ℕ) (r : Result Screen Refusal) → r ≡ screen_of m b → number_of r ≡ first_of (screen_rows m b)
numbered m b r e = ap number_of e ∙ number_is m b

-- a record without its form is refused by row 1
formless : (m : ℕ) (b : List ℕ) (w : Bool) → w ≡ well_formed b → w ≡ false → Err ScreenRecord ≡ screen_of m b
unfolding screen_rows number
formless m b w e h = refuses m b ScreenRecord (row_fails _ (ap not (tested e h)))

-- past row 1, the first number of the fields is the table's
table : (m : ℕ) (b : List ℕ) (w : Bool) (s : Screen) (x : Result (Unit {0}) Refusal) → w ≡ well_formed b → w ≡ true → s ≡ fields_of b → number_of x ≡ first_of (field_rows m s) → number_of x ≡ first_of (screen_rows m b)
table m b w s x e h f g = g ∙ ap (λ (s : Screen). first_of (field_rows m s)) f ∙ form_passes m b (tested e h)

refused : (m : ℕ) (b : List ℕ) (x : Result (Unit {0}) Refusal) (r : Refusal) (y : Result Screen Refusal) → number_of x ≡ first_of (screen_rows m b) → x ≡ Err r → y ≡ Err r → y ≡ screen_of m b
unfolding number_by
refused m b x r y e f g = g ∙ refuses m b r (ap number_of (sym f) ∙ e)

passed : (m : ℕ) (b : List ℕ) (s : Screen) (x : Result (Unit {0}) Refusal) (u : Unit {0}) → s ≡ fields_of b → number_of x ≡ first_of (screen_rows m b) → x ≡ Ok u → Ok s ≡ screen_of m b
unfolding number_by
passed m b s x u f e z = rw f (accepts m b (sym e ∙ ap number_of z))

pub returns-then-not-is_well_formed-clause-value : goal.returns-then-not-is_well_formed-clause-value
returns-then-not-is_well_formed-clause-value c = formless _ _ _ c.is_well_formed.ensures c.if-not-is_well_formed.true

pub returns-then-not-is_well_formed-clause-result_value : goal.returns-then-not-is_well_formed-clause-result_value
returns-then-not-is_well_formed-clause-result_value c = numbered _ _ _ (formless _ _ _ c.is_well_formed.ensures c.if-not-is_well_formed.true)

pub fields-s-requires : goal.fields-s-requires
fields-s-requires c = form_length _ (tested c.is_well_formed.ensures c.if-not-is_well_formed.false)

pub returns-in_err-check_fields-clause-value : goal.returns-in_err-check_fields-clause-value
returns-in_err-check_fields-clause-value c =
    let k = err_from_is_err_and c.from_residual.result c.from_residual.ensures.1 in
    refused _ _ c.check_fields.result c.in_err-check_fields.field-0.0 _
    (table _ _ _ _ _ c.is_well_formed.ensures c.if-not-is_well_formed.false c.fields-s.ensures c.check_fields.ensures)
    c.in_err-check_fields.was
    (k.1 ∙ ap (λ (r : Refusal). Err r) k.2)

pub returns-in_err-check_fields-clause-result_value : goal.returns-in_err-check_fields-clause-result_value
returns-in_err-check_fields-clause-result_value c = numbered _ _ _ (returns-in_err-check_fields-clause-value c)

pub returns-clause-value : goal.returns-clause-value
returns-clause-value c =
    passed _ _ _ c.check_fields.result c.in_ok-check_fields.field-0 c.fields-s.ensures
    (table _ _ _ _ _ c.is_well_formed.ensures c.if-not-is_well_formed.false c.fields-s.ensures c.check_fields.ensures)
    c.in_ok-check_fields.was

pub returns-clause-result_value : goal.returns-clause-result_value
returns-clause-result_value c = numbered _ _ _ (returns-clause-value c)
