-- The answer to a screen record, and its number.
use Prim.Native.Nat.{ℕ, ◌≤◌}
use mathlib.Core.Path.{◌≡◌, refl, ap, sym, subst}
use mathlib.Core.List.{List}
use mathlib.Core.Bool.{true, not}
use lib.ListN.{length}
use lib.Dec.{eqb, lit<}
use borrow.Author.Tests.{eqb-true, leb-true, not-false}
use Rattle.record.specs.Bytes.{byte_at}
use Rattle.record.specs.Checks.{row, first_of, Numbered}
use Rattle.record.proofs.Choice.{and_left, and_right}
use Rattle.record.proofs.Checks.{passed, row_passes}
use Rattle.screen.specs.Screen.{well_formed, fields_of, field_rows, screen_rows, screen_of}
use Rattle.screen.specs.declared.Screen.{Screen}
use Rattle.refusal.specs.Number.{number, refusal, number_of}
use Rattle.refusal.specs.declared.Refusal.{Refusal}
use Rattle.refusal.proofs.Numbers.{Listed, accepted, refused_with, accepted_by, number_answered}
use Rattle.std.specs.Prelude.{Ok, Err}

-- 0 is the number of no row
pub field_numbered : (m : ℕ) (s : Screen) → Numbered (field_rows m s)
unfolding field_rows Numbered
field_numbered m s = (lit< tt, (lit< tt, (lit< tt, (lit< tt, (lit< tt, (lit< tt, (lit< tt, (lit< tt, (lit< tt, (lit< tt, tt))))))))))

-- every row's number is a refusal's
pub field_listed : (m : ℕ) (s : Screen) → Listed (field_rows m s)
unfolding field_rows Listed number refusal
field_listed m s = (refl, (refl, (refl, (refl, (refl, (refl, (refl, (refl, (refl, (refl, tt))))))))))

pub screen_listed : (m : ℕ) (b : List ℕ) → Listed (screen_rows m b)
unfolding screen_rows Listed number refusal
screen_listed m b = (refl, field_listed m (fields_of b))

pub screen_numbered : (m : ℕ) (b : List ℕ) → Numbered (screen_rows m b)
unfolding screen_rows Numbered
screen_numbered m b = (lit< tt, field_numbered m (fields_of b))

-- a well formed record has its length, and a flag
pub form_length : (b : List ℕ) → well_formed b ≡ true → length b ≡ 32
unfolding well_formed
form_length b h = eqb-true (length b) 32 (and_left _ _ h)

pub form_flag : (b : List ℕ) → well_formed b ≡ true → (fields_of b).flag ≤ 1
unfolding well_formed fields_of
form_flag b h = leb-true (byte_at b 2) 1 (and_left _ _ (and_right (eqb (length b) 32) _ h))

module _ (m : ℕ) (b : List ℕ) where
  -- past row 1 the fields decide
  pub form_passes : well_formed b ≡ true → first_of (field_rows m (fields_of b)) ≡ first_of (screen_rows m b)
  unfolding screen_rows
  form_passes h = row_passes 1 _ (ap not h) refl

  pub accepts : first_of (screen_rows m b) ≡ 0 → Ok (fields_of b) ≡ screen_of m b
  unfolding screen_of
  accepts e = sym (accepted (fields_of b) _ e)

  pub refuses : (r : Refusal) → number r ≡ first_of (screen_rows m b) → Err r ≡ screen_of m b
  unfolding screen_of
  refuses r e = sym (refused_with (fields_of b) r _ e)

  -- the answer's number is the table's
  pub number_is : number_of (screen_of m b) ≡ first_of (screen_rows m b)
  unfolding screen_of
  number_is = number_answered (fields_of b) (screen_rows m b) (screen_listed m b)

-- an accepted record: its screen is its fields, none of 1 to 9 and 26 holds, and its flag is 0 or 1
pub read_accepted : (m : ℕ) (b : List ℕ) (s : Screen) → screen_of m b ≡ Ok s → (s ≡ fields_of b) × (first_of (screen_rows m b) ≡ 0) × (first_of (field_rows m s) ≡ 0) × (s.flag ≤ 1) × (length b ≡ 32)
unfolding screen_of screen_rows
read_accepted m b s e =
    let a = accepted_by (first_of (screen_rows m b)) (fields_of b) s e in
    let n = a.0 in
    let p = passed (row 1 (not (well_formed b))) (field_rows m (fields_of b)) (lit< tt) n in
    let f = not-false (well_formed b) p.0 in (
      a.1,
      n,
      subst (λ (t : Screen). first_of (field_rows m t) ≡ 0) (sym a.1) p.1,
      subst (λ (t : Screen). t.flag ≤ 1) (sym a.1) (form_flag b f),
      form_length b f,
    )
