-- A refusal and its number are one another's, and an answer by a table's first number has that number.
use Rattle.std.specs.Prelude.{ℕ, ◌≡◌, ◌<◌, Bool, true, false, List, [], ◌∷◌, Result, Ok, Err, cond, eqb}
use mathlib.Core.Path.{refl, sym, ap, subst, ◌∙◌}
use native.Mathlib.Omega.{arith}
use borrow.Author.Tests.{eqb-true, eqb-false, eq-eqb, ne_eqb}
use Rattle.record.specs.Checks.{Row, first_of}
use Rattle.refusal.specs.Number.{number, refusal, number_by, number_of, answered, answered_at, told_by}
use Rattle.refusal.specs.declared.Refusal.{Refusal}
use Rattle.refusal.specs.declared.Refusal.TheVariants.{ScreenRecord, Depth, Rotation, Panel, ViewWidth, MainImage, WindowPlace, WindowDwords, WindowImage, ListLength, ListDepth, CommandForm, EmptyRectangle, Outside, FewWords, WordsLeft, Room, MemoryLength, StreamLength, Register, Value, Reach, DataWord, Point, Address, LineLength, WearRange, LongOnly, Shared, Block}
use Rattle.refusal.specs.declared.Refused.{Refused}

-- the number of a refusal leads back to it
pub refusal_number : (r : Refusal) → refusal (number r) ≡ r
unfolding number refusal
refusal_number ScreenRecord = refl
refusal_number Depth = refl
refusal_number Rotation = refl
refusal_number Panel = refl
refusal_number ViewWidth = refl
refusal_number MainImage = refl
refusal_number WindowPlace = refl
refusal_number WindowDwords = refl
refusal_number WindowImage = refl
refusal_number ListLength = refl
refusal_number ListDepth = refl
refusal_number CommandForm = refl
refusal_number EmptyRectangle = refl
refusal_number Outside = refl
refusal_number FewWords = refl
refusal_number WordsLeft = refl
refusal_number Room = refl
refusal_number MemoryLength = refl
refusal_number StreamLength = refl
refusal_number Register = refl
refusal_number Value = refl
refusal_number Reach = refl
refusal_number DataWord = refl
refusal_number Point = refl
refusal_number Address = refl
refusal_number LineLength = refl
refusal_number WearRange = refl
refusal_number LongOnly = refl
refusal_number Shared = refl
refusal_number Block = refl

-- no refusal has the number 0
pub number_positive : (r : Refusal) → 0 < number r
unfolding number
number_positive ScreenRecord = omega arith
number_positive Depth = omega arith
number_positive Rotation = omega arith
number_positive Panel = omega arith
number_positive ViewWidth = omega arith
number_positive MainImage = omega arith
number_positive WindowPlace = omega arith
number_positive WindowDwords = omega arith
number_positive WindowImage = omega arith
number_positive ListLength = omega arith
number_positive ListDepth = omega arith
number_positive CommandForm = omega arith
number_positive EmptyRectangle = omega arith
number_positive Outside = omega arith
number_positive FewWords = omega arith
number_positive WordsLeft = omega arith
number_positive Room = omega arith
number_positive MemoryLength = omega arith
number_positive StreamLength = omega arith
number_positive Register = omega arith
number_positive Value = omega arith
number_positive Reach = omega arith
number_positive DataWord = omega arith
number_positive Point = omega arith
number_positive Address = omega arith
number_positive LineLength = omega arith
number_positive WearRange = omega arith
number_positive LongOnly = omega arith
number_positive Shared = omega arith
number_positive Block = omega arith

-- ---- answers by a number
module _ {A : Type 0} (a : A) where
  pub accepted : (n : ℕ) → n ≡ 0 → answered n a ≡ Ok a
  unfolding answered
  accepted n e = simp (eq-eqb _ _ e)

  pub refused : (n : ℕ) → 0 < n → answered n a ≡ Err (refusal n)
  unfolding answered
  refused n h = simp (ne_eqb n 0 (λ z. omega arith))

  -- a refusal with that number
  pub refused_with : (r : Refusal) (n : ℕ) → number r ≡ n → answered n a ≡ Err r
  refused_with r n e =
      refused n (subst (λ (k : ℕ). 0 < k) e (number_positive r)) ∙ ap (λ (t : Refusal). Err t) (ap refusal (sym e) ∙ refusal_number r)

  pub accepted_at : (n place : ℕ) → n ≡ 0 → answered_at n place a ≡ Ok a
  unfolding answered_at
  accepted_at n place e = simp (eq-eqb _ _ e)

  pub refused_at : (n place : ℕ) → 0 < n → answered_at n place a ≡ Err (record { refusal = refusal n; place = place })
  unfolding answered_at
  refused_at n place h = simp (ne_eqb n 0 (λ z. omega arith))

  pub refused_with_at : (r : Refused) (n place : ℕ) → number r.refusal ≡ n → r.place ≡ place → answered_at n place a ≡ Err r
  refused_with_at r n place e p =
      refused_at n place (subst (λ (k : ℕ). 0 < k) e (number_positive r.refusal))
      ∙ ap (λ (t : Refusal). Err (record { refusal = t; place = place })) (ap refusal (sym e) ∙ refusal_number r.refusal)
      ∙ ap (λ (i : ℕ). Err (record { refusal = r.refusal; place = i })) (sym p)

-- ---- an answer that tells of its refusal by itself is the answer
pub told_self : {A : Type 0} (x : Result A Refused) → told_by (λ r. r) x ≡ x
unfolding told_by
told_self (Ok a) = refl
told_self (Err r) = refl

-- ---- tables whose numbers are refusals'
unfoldable pub Listed : List Row → Type 0
Listed [] = Unit {0}
Listed (r ∷ rs) = (number (refusal r.number) ≡ r.number) × Listed rs

chosen_listed : (t : Bool) (n k : ℕ) → number (refusal n) ≡ n → (0 < k → number (refusal k) ≡ k) → 0 < cond t n k → number (refusal (cond t n k)) ≡ cond t n k
chosen_listed true n k e f h = e
chosen_listed false n k e f h = f h

pub first_listed : (rows : List Row) → Listed rows → 0 < first_of rows → number (refusal (first_of rows)) ≡ first_of rows
unfolding Listed first_of
first_listed [] p h = absurd (omega arith)
first_listed (r ∷ rs) p h = chosen_listed r.fails r.number (first_of rs) p.0 (first_listed rs p.1) h

-- an answer by a table's first number has that number
module _ {A : Type 0} (a : A) where
  numbered : (t : Bool) (n : ℕ) → eqb n 0 ≡ t → (0 < n → number (refusal n) ≡ n) → number_of (answered n a) ≡ n
  unfolding number_by answered
  numbered true n e f = rw e (sym (eqb-true n 0 e))
  numbered false n e f = rw e (f (positive n e))
    where
      positive : (n : ℕ) → eqb n 0 ≡ false → 0 < n
      positive n e = let d = eqb-false n 0 e in omega (arith, d)

  pub number_answered : (rows : List Row) → Listed rows → number_of (answered (first_of rows) a) ≡ first_of rows
  number_answered rows p = numbered (eqb (first_of rows) 0) (first_of rows) refl (first_listed rows p)

-- what an accepted answer is
accepted_chosen : {A : Type 0} (t : Bool) (n : ℕ) (a b : A) → eqb n 0 ≡ t → cond t (Ok a) (Err (refusal n)) ≡ Ok b → (n ≡ 0) × (b ≡ a)
accepted_chosen true n a b e p = (eqb-true n 0 e, (cc))
accepted_chosen false n a b e p = (cc)

pub accepted_by : {A : Type 0} (n : ℕ) (a b : A) → answered n a ≡ Ok b → (n ≡ 0) × (b ≡ a)
unfolding answered
accepted_by n a b p = accepted_chosen (eqb n 0) n a b refl p

-- what a refused answer is
refused_chosen : {A : Type 0} (t : Bool) (n : ℕ) (a : A) (r : Refusal) → eqb n 0 ≡ t → cond t (Ok a) (Err (refusal n)) ≡ Err r → (0 < n) × (refusal n ≡ r)
refused_chosen true n a r e p = (cc)
refused_chosen false n a r e p = let d = eqb-false n 0 e in (omega (arith, d), (cc))

pub refused_by : {A : Type 0} (n : ℕ) (a : A) (r : Refusal) → answered n a ≡ Err r → (0 < n) × (refusal n ≡ r)
unfolding answered
refused_by n a r p = refused_chosen (eqb n 0) n a r refl p

-- with a table's first number
pub refused_first : {A : Type 0} (rows : List Row) → Listed rows → (a : A) (r : Refusal) → answered (first_of rows) a ≡ Err r → (first_of rows ≡ number r) × (0 < number r)
refused_first rows p a r e =
    let q = refused_by (first_of rows) a r e in
    (sym (ap number (sym q.1) ∙ first_listed rows p q.0), number_positive r)

-- the same with a place
accepted_chosen_at : {A : Type 0} (t : Bool) (n place : ℕ) (a b : A) → eqb n 0 ≡ t → cond {A = Result A Refused} t (Ok a) (Err (record { refusal = refusal n; place = place })) ≡ Ok b → (n ≡ 0) × (b ≡ a)
accepted_chosen_at true n place a b e p = (eqb-true n 0 e, (cc))
accepted_chosen_at false n place a b e p = (cc)

pub accepted_by_at : {A : Type 0} (n place : ℕ) (a b : A) → answered_at n place a ≡ Ok b → (n ≡ 0) × (b ≡ a)
unfolding answered_at
accepted_by_at n place a b p = accepted_chosen_at (eqb n 0) n place a b refl p

refused_chosen_at : {A : Type 0} (t : Bool) (n place : ℕ) (a : A) (r : Refused) → eqb n 0 ≡ t → cond {A = Result A Refused} t (Ok a) (Err (record { refusal = refusal n; place = place })) ≡ Err r → (0 < n) × (record { refusal = refusal n; place = place } ≡ r)
refused_chosen_at true n place a r e p = (cc)
refused_chosen_at false n place a r e p = let d = eqb-false n 0 e in (omega (arith, d), (cc))

pub refused_by_at : {A : Type 0} (n place : ℕ) (a : A) (r : Refused) → (0 < n → number (refusal n) ≡ n) → answered_at n place a ≡ Err r → (n ≡ number r.refusal) × (place ≡ r.place)
unfolding answered_at
refused_by_at n place a r f p =
    let q = refused_chosen_at (eqb n 0) n place a r refl p in
    (sym (f q.0) ∙ ap (λ (x : Refused). number x.refusal) q.1, ap (λ (x : Refused). x.place) q.1)
