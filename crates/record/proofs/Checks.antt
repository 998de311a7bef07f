-- The one law of every table of refusals: accepted exactly when no row fails, else number and place of the first that does.
use Prim.Native.Nat.{ℕ, ◌+◌, ◌<◌, ◌≤◌}
use mathlib.Core.Path.{◌≡◌, refl, ap, ◌∙◌}
use mathlib.Core.Bool.{Bool, true, false, ◌||◌, cond, true≢false}
use mathlib.Core.List.{List, [], ◌∷◌, ◌++◌}
use mathlib.Core.Logic.{◌↔◌}
use native.Mathlib.Numerals.{add-one}
use native.Mathlib.Omega.{arith}
use lib.ListN.{length, get_or, drop, drop_of_length-le}
use lib.Seq.{drop-cons}
use lib.Dec.{eqb}
use borrow.Author.Tests.{eqb-true, eqb-false}
use Rattle.record.specs.Checks.{Row, row, rows_with, any_of, rows_at, first_of, first_place, AllPass, FirstFails, Numbered}

-- a choice that gives 0 is not the first case where that is above 0
second : (b : Bool) (n x : ℕ) → 0 < n → cond b n x ≡ 0 → (b ≡ false) × (x ≡ 0)
second true n x h e = absurd (omega arith)
second false n x h e = (refl, e)

-- ---- one row at a time
-- no number: the first row passes, and the others give none
pub passed : (r : Row) (rs : List Row) → 0 < r.number → first_of (r ∷ rs) ≡ 0 → (r.fails ≡ false) × (first_of rs ≡ 0)
unfolding first_of
passed r rs h e = second r.fails r.number (first_of rs) h e

-- for early returns: the row fails, and its number is the answer
pub row_fails : {n : ℕ} {b : Bool} (rs : List Row) → b ≡ true → n ≡ first_of (row n b ∷ rs)
unfolding first_of
row_fails rs e = rw e

-- the row passes, and the answer is that of the rows behind it
pub row_passes : {x : ℕ} {b : Bool} (n : ℕ) (rs : List Row) → b ≡ false → x ≡ first_of rs → x ≡ first_of (row n b ∷ rs)
unfolding first_of
row_passes n rs e p = rw e p

pub rows_end : 0 ≡ first_of []
unfolding first_of
rows_end = refl

-- ---- a table in two parts
-- the first part passes: the second decides
pub second_part : (a b : List Row) → AllPass a → first_of (a ++ b) ≡ first_of b
unfolding AllPass first_of
second_part [] b p = refl
second_part (r ∷ a) b p = rw p.0 (second_part a b p.1)

pub second_place : (a b : List Row) → AllPass a → first_place (a ++ b) ≡ first_place b
unfolding AllPass first_place
second_place [] b p = refl
second_place (r ∷ a) b p = rw p.0 (second_place a b p.1)

-- a row of the first part fails: it decides
same_choice : (t : Bool) (n m x y z : ℕ) → (0 < z → y ≡ x) → 0 < cond t m z → cond t n y ≡ cond t n x
same_choice true n m x y z f h = refl
same_choice false n m x y z f h = f h

pub first_part : (a b : List Row) → 0 < first_of a → first_of (a ++ b) ≡ first_of a
unfolding first_of
first_part [] b h = absurd (omega arith)
first_part (r ∷ a) b h = same_choice r.fails r.number r.number (first_of a) (first_of (a ++ b)) (first_of a) (first_part a b) h

pub first_place_lem : (a b : List Row) → 0 < first_of a → first_place (a ++ b) ≡ first_place a
unfolding first_of first_place
first_place_lem [] b h = absurd (omega arith)
first_place_lem (r ∷ a) b h = same_choice r.fails r.place r.number (first_place a) (first_place (a ++ b)) (first_of a) (first_place_lem a b) h

pub numbered_append : (a b : List Row) → Numbered a → Numbered b → Numbered (a ++ b)
unfolding Numbered
numbered_append [] b p q = q
numbered_append (r ∷ a) b p q = (p.0, numbered_append a b p.1 q)

-- ---- rows at a place
pub number_at : (i : ℕ) (rows : List Row) → first_of (rows_at i rows) ≡ first_of rows
unfolding rows_at first_of
number_at i [] = refl
number_at i (r ∷ rs) = ap (λ (n : ℕ). cond r.fails r.number n) (number_at i rs)

pub place_at : (i : ℕ) (rows : List Row) → 0 < first_of rows → first_place (rows_at i rows) ≡ i
unfolding rows_at first_of first_place
place_at i [] h = absurd (omega arith)
place_at i (r ∷ rs) h = chosen r.fails r.number (first_of rs) (first_place (rows_at i rs)) (place_at i rs) h
  where
    chosen : (t : Bool) (n x y : ℕ) → (0 < x → y ≡ i) → 0 < cond t n x → cond t i y ≡ i
    chosen true n x y f g = refl
    chosen false n x y f g = f g

pub numbered_at : (i : ℕ) (rows : List Row) → Numbered rows → Numbered (rows_at i rows)
unfolding rows_at Numbered
numbered_at i [] u = tt
numbered_at i (r ∷ rs) u = (u.0, numbered_at i rs u.1)

-- rows that name no command and no record
unfoldable pub Placeless : List Row → Type 0
Placeless [] = Unit {0}
Placeless (r ∷ rs) = (r.place ≡ 0) × Placeless rs

pub placeless : (rows : List Row) → Placeless rows → first_place rows ≡ 0
unfolding Placeless first_place
placeless [] p = refl
placeless (r ∷ rs) p = rw (p.0, placeless rs p.1) (either r.fails)
  where
    either : (t : Bool) → ◌≡◌ {A = ℕ} (cond t 0 0) 0
    either true = refl
    either false = refl

pub placeless_append : (a b : List Row) → Placeless a → Placeless b → Placeless (a ++ b)
unfolding Placeless
placeless_append [] b p q = q
placeless_append (r ∷ a) b p q = (p.0, placeless_append a b p.1 q)

-- ---- the whole table
-- accepted: no row fails
pub none : (rows : List Row) → Numbered rows → first_of rows ≡ 0 → AllPass rows
unfolding AllPass Numbered
none [] u e = tt
none (r ∷ rs) u e = let p = passed r rs u.0 e in (p.0, none rs u.1 p.1)

pub none_back : (rows : List Row) → AllPass rows → first_of rows ≡ 0
unfolding AllPass first_of
none_back [] p = refl
none_back (r ∷ rs) p = rw p.0 (none_back rs p.1)

pub nowhere : (rows : List Row) → AllPass rows → first_place rows ≡ 0
unfolding AllPass first_place
nowhere [] p = refl
nowhere (r ∷ rs) p = rw p.0 (nowhere rs p.1)

-- refused by n at i: a row of number n and place i fails, and all before it pass
at_front : (r : Row) (rs : List Row) (n i : ℕ) → r.fails ≡ true → r.number ≡ n → r.place ≡ i → FirstFails (r ∷ rs) n i
unfolding AllPass
at_front r rs n i e p q = record { before = []; at = r; after = rs; cut = refl; earlier = tt; fails = e; numbered = p; placed = q }

behind : (r : Row) (rs : List Row) (n i : ℕ) → r.fails ≡ false → FirstFails rs n i → FirstFails (r ∷ rs) n i
unfolding AllPass
behind r rs n i e f =
    record {
      before = r ∷ f.before;
      at = f.at;
      after = f.after;
      cut = ap (λ (l : List Row). r ∷ l) f.cut;
      earlier = (e, f.earlier);
      fails = f.fails;
      numbered = f.numbered;
      placed = f.placed;
    }

by_front : (b : Bool) (r : Row) (rs : List Row) (n i : ℕ) → r.fails ≡ b → cond b r.number (first_of rs) ≡ n → cond b r.place (first_place rs) ≡ i
    → (first_of rs ≡ n → first_place rs ≡ i → FirstFails rs n i) → FirstFails (r ∷ rs) n i
by_front true r rs n i t e g f = at_front r rs n i t e g
by_front false r rs n i t e g f = behind r rs n i t (f e g)

pub first : (rows : List Row) (n i : ℕ) → 0 < n → first_of rows ≡ n → first_place rows ≡ i → FirstFails rows n i
unfolding first_of first_place
first [] n i h e g = absurd (omega arith)
first (r ∷ rs) n i h e g = by_front r.fails r rs n i refl e g (first rs n i h)

failing : (r : Row) (rs : List Row) → r.fails ≡ true → (first_of (r ∷ rs) ≡ r.number) × (first_place (r ∷ rs) ≡ r.place)
unfolding first_of first_place
failing r rs e = (rw e refl, rw e refl)

pub first_back : (rows : List Row) (n i : ℕ) → FirstFails rows n i → (first_of rows ≡ n) × (first_place rows ≡ i)
first_back rows n i f =
    let d = failing f.at f.after f.fails in (
      ap first_of f.cut ∙ second_part f.before (f.at ∷ f.after) f.earlier ∙ d.0 ∙ f.numbered,
      ap first_place f.cut ∙ second_place f.before (f.at ∷ f.after) f.earlier ∙ d.1 ∙ f.placed,
    )

-- both ways
pub accepted_exactly : (rows : List Row) → Numbered rows → (first_of rows ≡ 0) ↔ AllPass rows
accepted_exactly rows u = (none rows u, none_back rows)

pub refused_exactly : (rows : List Row) (n i : ℕ) → 0 < n → ((first_of rows ≡ n) × (first_place rows ≡ i)) ↔ FirstFails rows n i
refused_exactly rows n i h = (λ e. first rows n i h e.0 e.1, first_back rows n i)

-- ---- a table in two parts: the first decides, or else the second
two_parts : (a b : List Row) → Numbered a → (t : Bool) → eqb (first_of a) 0 ≡ t
    → (first_of (a ++ b) ≡ cond t (first_of b) (first_of a)) × (first_place (a ++ b) ≡ cond t (first_place b) (first_place a))
two_parts a b n true e = let p = none a n (eqb-true (first_of a) 0 e) in (second_part a b p, second_place a b p)
two_parts a b n false e = let h : 0 < first_of a = omega (arith, eqb-false (first_of a) 0 e) in (first_part a b h, first_place_lem a b h)

pub parts : (a b : List Row) → Numbered a → first_of (a ++ b) ≡ cond (eqb (first_of a) 0) (first_of b) (first_of a)
parts a b n = (two_parts a b n (eqb (first_of a) 0) refl).0

pub place_parts : (a b : List Row) → Numbered a → first_place (a ++ b) ≡ cond (eqb (first_of a) 0) (first_place b) (first_place a)
place_parts a b n = (two_parts a b n (eqb (first_of a) 0) refl).1

-- rows at place i before others
at_then : (i : ℕ) (a b : List Row) (t : Bool) → eqb (first_of a) 0 ≡ t → cond t (first_place b) (first_place (rows_at i a)) ≡ cond t (first_place b) i
at_then i a b true e = refl
at_then i a b false e = place_at i a (omega (arith, eqb-false (first_of a) 0 e))

pub at_parts : (i : ℕ) (a b : List Row) → Numbered a → first_of (rows_at i a ++ b) ≡ cond (eqb (first_of a) 0) (first_of b) (first_of a)
at_parts i a b n = parts (rows_at i a) b (numbered_at i a n) ∙ ap (λ (x : ℕ). cond (eqb x 0) (first_of b) x) (number_at i a)

pub at_place_parts : (i : ℕ) (a b : List Row) → Numbered a → first_place (rows_at i a ++ b) ≡ cond (eqb (first_of a) 0) (first_place b) i
at_place_parts i a b n =
    place_parts (rows_at i a) b (numbered_at i a n)
    ∙ ap (λ (x : ℕ). cond (eqb x 0) (first_place b) (first_place (rows_at i a))) (number_at i a)
    ∙ at_then i a b (eqb (first_of a) 0) refl

-- ---- rows by their numbers and what the checks found
-- nothing found: no number
pub none_found : (ns : List ℕ) (bs : List Bool) → any_of bs ≡ false → first_of (rows_with ns bs) ≡ 0
unfolding any_of rows_with first_of
none_found [] bs e = refl
none_found (n ∷ ns) [] e = refl
none_found (n ∷ ns) (true ∷ bs) e = absurd (true≢false e)
none_found (n ∷ ns) (false ∷ bs) e = none_found ns bs e

-- what is found in the rest, for a loop that goes up
module _ (bs : List Bool) (i : ℕ) where
  pub found_step : (t : Bool) → i < length bs → t || any_of (drop i bs) ≡ (t || get_or bs i false) || any_of (drop (i + 1) bs)
  unfolding any_of
  found_step true h = refl
  found_step false h = rw (add-one, drop-cons bs i false) refl

  pub found_end : (t : Bool) → length bs ≤ i → t || any_of (drop i bs) ≡ t
  unfolding any_of
  found_end true h = refl
  found_end false h = rw (drop_of_length-le bs h) refl

-- and for the loop that looks for the number
module _ (ns : List ℕ) (bs : List Bool) (i : ℕ) where
  pub rows_step : i < length ns → i < length bs → get_or bs i false ≡ false → first_of (rows_with (drop i ns) (drop i bs)) ≡ first_of (rows_with (drop (i + 1) ns) (drop (i + 1) bs))
  unfolding rows_with first_of
  rows_step p q e = rw (add-one, drop-cons ns i 0, drop-cons bs i false) (rw e refl)

  pub rows_stop : i < length ns → i < length bs → get_or bs i false ≡ true → first_of (rows_with (drop i ns) (drop i bs)) ≡ get_or ns i 0
  unfolding rows_with first_of
  rows_stop p q e = rw (drop-cons ns i 0, drop-cons bs i false) (rw e refl)

  pub rows_over : length bs ≤ i → first_of (rows_with (drop i ns) (drop i bs)) ≡ 0
  unfolding rows_with first_of
  rows_over h = rw (drop_of_length-le bs h) (no_checks (drop i ns))
    where
      no_checks : (xs : List ℕ) → first_of (rows_with xs []) ≡ 0
      no_checks [] = refl
      no_checks (x ∷ xs) = refl
