-- There and back gives the old bytes: one law over the two forms, for a list of which no command has an operation above 2 or a byte past 31 that is
-- not zero.
use Prim.Native.Nat.{ℕ, ◌-◌, ◌%◌, ◌≤◌}
use mathlib.Core.Path.{◌≡◌, refl, sym, ap, subst, ◌∙◌}
use mathlib.Core.List.{List, [], ◌∷◌, map}
use mathlib.Core.Bool.{Bool, true, false, not, ◌&&◌, ◌||◌, true≢false}
use native.Mathlib.Omega.{arith}
use lib.ListN.{length, take, drop, drop_of_length-le, get_or-append}
use lib.Seq.{length-take-le, get_or-take}
use lib.Dec.{leb, ltb}
use borrow.Author.Tests.{leb-true, le-leb, le-ltb, ltb-false, not-false}
use Rattle.record.specs.Bytes.{byte_at, all_zero, over}
use Rattle.record.specs.Lists.{parts_of}
use Rattle.record.proofs.Choice.{and_left, and_right, and_go}
use Rattle.command.specs.Task.{short_form, long_form, is_form}
use Rattle.command.proofs.Forms.{form_least, list_is}
use Rattle.form.specs.Turn.{record_in, list_of, turned_list, stays_long, any_stays_long, turning, turned_into}
use Rattle.form.specs.Claims.{ComesBack, none_above, ThereAndBack}
use Rattle.form.proofs.Lists.{Each, each_part, list_back, parts_turned, list_turned}
use Rattle.form.proofs.Records.{zeros_zero, record_ends, record_stays, record_again}
use Rattle.form.proofs.Accepted.{Accepted, accepted_says, accepted_by, into_is, given_is}

-- no record has a byte past 31 that is not zero
unfoldable pub EndsZero : List (List ℕ) → Type 0
EndsZero [] = Unit {0}
EndsZero (b ∷ bs) = (all_zero (drop short_form b) ≡ true) × EndsZero bs

-- ---- what is known of the commands
-- short records end there
short_ends : (bs : List (List ℕ)) → Each short_form bs → EndsZero bs
unfolding Each EndsZero all_zero
short_ends [] e = tt
short_ends (b ∷ bs) e = (ap all_zero (drop_of_length-le b {i = short_form} (omega (arith, e.0))), short_ends bs e.1)

-- neither of two
neither : (a b : Bool) → (a || b) ≡ false → (a ≡ false) × (b ≡ false)
neither true b e = absurd (true≢false e)
neither false b e = (refl, e)

-- row 28 passes
none_stays : (bs : List (List ℕ)) → any_stays_long bs ≡ false → (none_above bs ≡ true) × EndsZero bs
unfolding any_stays_long none_above EndsZero
none_stays [] e = (refl, tt)
none_stays (b ∷ bs) e =
    let p = neither (stays_long b) (any_stays_long bs) e in
    let q = neither (ltb 2 (byte_at b 0)) (not (all_zero (drop 32 b))) p.0 in
    let r = none_stays bs p.1 in
    (sym (and_go (le-leb (byte_at b 0) 2 (ltb-false 2 (byte_at b 0) q.0)) (sym r.0)), (not-false (all_zero (drop 32 b)) q.1, r.1))

-- ---- the turned commands
module _ (from to : ℕ) (h : short_form ≤ from) where
  first_byte : (b : List ℕ) → short_form ≤ length b → byte_at (record_in to b) 0 ≡ byte_at b 0
  first_byte b k = get_or-append (take short_form b) _ 0 0 (omega (arith, length-take-le short_form b k)) ∙ get_or-take short_form b 0 0 (omega arith)

  -- each has a short form
  none_long : (bs : List (List ℕ)) → Each from bs → none_above bs ≡ true → any_stays_long (map (record_in to) bs) ≡ false
  unfolding Each any_stays_long none_above
  none_long [] e n = refl
  none_long (b ∷ bs) e n =
      let k : short_form ≤ length b = omega (arith, e.0) in
      let low : byte_at b 0 ≤ 2 = leb-true (byte_at b 0) 2 (and_left (leb (byte_at b 0) 2) (none_above bs) n) in
      let first : ltb 2 (byte_at (record_in to b) 0) ≡ false = ap (ltb 2) (first_byte b k) ∙ le-ltb 2 (byte_at b 0) low in
      let last : not (all_zero (drop 32 (record_in to b))) ≡ false = ap (λ (l : List ℕ). not (all_zero l)) (record_ends to b k) ∙ ap not (zeros_zero (to - short_form)) in
      (λ t. (first t || last t) || any_stays_long (map (record_in to) bs)) ∙ none_long bs e.1 (and_right (leb (byte_at b 0) 2) (none_above bs) n)

  -- turned again they are what they were
  records_back : (bs : List (List ℕ)) → Each from bs → EndsZero bs → map (record_in from) (map (record_in to) bs) ≡ bs
  unfolding Each EndsZero
  records_back [] e z = refl
  records_back (b ∷ bs) e z =
      λ t. (record_again from b to (omega (arith, e.0)) ∙ record_stays from b e.0 z.0) t ∷ records_back bs e.1 z.1 t

-- ---- the list
never : (a : Bool) → (a && false) ≡ false
never true = refl
never false = refl

turned_is : (from to : ℕ) (list : List ℕ) → turned_list from to list ≡ list_of (map (record_in to) (parts_of from list))
unfolding turned_list
turned_is from to list = refl

module _ (from to : ℕ) (list : List ℕ) (h : is_form from ≡ true) (k : is_form to ≡ true) (z : EndsZero (parts_of from list)) where
  pub turned_back : length list % from ≡ 0 → turned_list to from (turned_list from to list) ≡ list
  turned_back e =
      turned_is to from (turned_list from to list)
      ∙ ap (λ (bs : List (List ℕ)). list_of (map (record_in from) bs)) (parts_turned from to list h k)
      ∙ ap list_of (records_back from to (form_least from h) (parts_of from list) (each_part from list) z)
      ∙ list_back from list e

  pub comes_back : (target back : List ℕ) → (turning from to list (length target)).number ≡ 0 → none_above (parts_of from list) ≡ true
      → length list ≤ length back → ComesBack from to list target back
  comes_back target back e n fits =
      let a = accepted_says from to list (length target) e in
      let l = list_is from list a.listed in
      let long = turned_list from to list in
      let given = given_is from to list target a in
      let old = turned_back l.1 in
      let none = ap any_stays_long (parts_turned from to list h k) ∙ none_long from to (form_least from h) (parts_of from list) (each_part from list) n in
      let again : Accepted to from long (length back) =
      record {
        listed = list_turned from to list a.listed k;
        fits = subst (λ (x : List ℕ). length x ≤ length back) (sym old) fits;
        short = ap (λ (t : Bool). ltb from to && t) none ∙ never (ltb from to);
      } in
      record {
        answer = ap (λ (x : List ℕ). turning to from x (length back)) given ∙ accepted_by to from long (length back) again ∙ ap (λ (x : List ℕ). record { number = 0; length = length x }) old;
        bytes = ap (λ (x : List ℕ). turned_into to from x back) given ∙ into_is to from long back again ∙ ap (λ (x : List ℕ). over x back) old;
      }

pub there_and_back : ThereAndBack
there_and_back =
    record {
      there_and_back = λ list target back e n fits. comes_back short_form long_form list refl refl (short_ends (parts_of short_form list) (each_part short_form list)) target back e n fits;
      back_and_there = λ list target back e fits.
          let known = none_stays (parts_of long_form list) (accepted_says long_form short_form list (length target) e).short in
          comes_back long_form short_form list refl refl known.1 target back e known.0 fits;
    }
