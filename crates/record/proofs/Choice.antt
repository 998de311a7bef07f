-- Steps through `cond`, `&&` and `||`, one for each way that a test can fall, and what a test on an answer says.
use Prim.Native.Nat.{ℕ, ◌<◌, ◌≤◌}
use mathlib.Core.Path.{◌≡◌, refl, sym, ap, ◌∙◌}
use mathlib.Core.Bool.{Bool, true, false, not, ◌&&◌, ◌||◌, cond}
use mathlib.Core.Logic.{◌⊎◌, inl, inr}
use lib.Dec.{ltb}
use borrow.Author.Tests.{ltb-true, ltb-false}

-- the test holds: the first case
pub yes : {A : Type 0} {b : Bool} {r x : A} (y : A) → b ≡ true → r ≡ x → r ≡ cond b x y
yes y e p = rw e p

-- the test fails: the second case
pub no : {A : Type 0} {b : Bool} {r y : A} (x : A) → b ≡ false → r ≡ y → r ≡ cond b x y
no x e p = rw e p

pub and_go : {a b r : Bool} → a ≡ true → r ≡ b → r ≡ (a && b)
and_go e p = rw e p

pub and_stop : {a : Bool} (b : Bool) → a ≡ false → false ≡ (a && b)
and_stop b e = rw e

pub or_go : {a b r : Bool} → a ≡ false → r ≡ b → r ≡ (a || b)
or_go e p = rw e p

pub or_stop : {a : Bool} (b : Bool) → a ≡ true → true ≡ (a || b)
or_stop b e = rw e

pub is_not : {a : Bool} → a ≡ false → true ≡ not a
is_not e = rw e

-- the answer r is t, and the test is of `!r`
pub negated : {r t v : Bool} → r ≡ t → not r ≡ v → not t ≡ v
negated e h = ap not (sym e) ∙ h

-- the answer r is t, and the test is of r
pub tested : {r t v : Bool} → r ≡ t → r ≡ v → t ≡ v
tested e h = sym e ∙ h

pub and_left : (a b : Bool) → (a && b) ≡ true → a ≡ true
and_left true b h = refl
and_left false b h = h

pub and_right : (a b : Bool) → (a && b) ≡ true → b ≡ true
and_right true b h = h
and_right false true h = refl
and_right false false h = h

pub or_elim : {P : Type 0} (a b : Bool) → (a || b) ≡ true → (a ≡ true → P) → (b ≡ true → P) → P
or_elim true b h f g = f refl
or_elim false b h f g = g h

split : (a n : ℕ) (t : Bool) → ltb a n ≡ t → (a < n) ⊎ (n ≤ a)
split a n true e = inl (ltb-true a n e)
split a n false e = inr (ltb-false a n e)

pub below_or_not : (a n : ℕ) → (a < n) ⊎ (n ≤ a)
below_or_not a n = split a n (ltb a n) refl

-- what holds of both ways holds of the one that a test takes
pub both_ways : {A : Type 0} (P : A → Type 0) (t : Bool) (a b : A) → (t ≡ true → P a) → (t ≡ false → P b) → P (cond t a b)
both_ways P true a b f g = f refl
both_ways P false a b f g = g refl
