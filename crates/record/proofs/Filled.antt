-- A list of numbers that is filled from its start, number by number or part by part.
use Prim.Native.Nat.{ℕ, suc, ◌+◌, ◌≤◌, ◌<◌}
use mathlib.Core.Path.{◌≡◌, refl, ap, subst, ◌∙◌}
use mathlib.Core.List.{List, [], ◌∷◌}
use native.Mathlib.Nat.{add-zero}
use native.Mathlib.Numerals.{add-one}
use native.Mathlib.Omega.{arith}
use lib.ListN.{length, get_or, set, length-set}
use lib.Seq.{sets}
use Rattle.record.specs.Lists.{tabulate}
use Rattle.record.proofs.Lists.{filled_more, filled_all}

-- its first j numbers are those of f
pub record Filled (f : ℕ → ℕ) (old l : List ℕ) (j : ℕ) : Type 0 where
  pub within : j ≤ length old
  pub same : length l ≡ length old
  pub each : (k : ℕ) → k < j → get_or l k 0 ≡ f k

pub fill_start : (f : ℕ → ℕ) (old : List ℕ) → Filled f old old 0
fill_start f old = record { within = omega arith; same = refl; each = λ k h. absurd (omega arith) }

-- one more
next : (f : ℕ → ℕ) (old l : List ℕ) (j v : ℕ) → j < length l → Filled f old l j → v ≡ f j → Filled f old (set l j v) (suc j)
next f old l j v h g e = record { within = omega (arith, g.same); same = length-set l j v ∙ g.same; each = filled_more f 0 v j l h g.each e }

pub fill_more : (f : ℕ → ℕ) (old l : List ℕ) (j v : ℕ) → j < length l → Filled f old l j → v ≡ f j → Filled f old (set l j v) (j + 1)
fill_more f old l j v h g e = rw add-one (next f old l j v h g e)

-- a part more
pub fill_part : (f : ℕ → ℕ) (old vs l : List ℕ) (j : ℕ) → j + length vs ≤ length old → Filled f old l j → ((t : ℕ) → t < length vs → get_or vs t 0 ≡ f (j + t))
    → Filled f old (sets l j vs) (j + length vs)
fill_part f old [] l j h g e = rw add-zero g
fill_part f old (v ∷ vs) l j h g e =
    let first : v ≡ f j = e 0 (omega arith) ∙ ap f (add-zero j) in
    let past : suc j + length vs ≡ j + suc (length vs) = omega arith in
    subst (Filled f old (sets (set l j v) (suc j) vs)) past
    (fill_part f old vs (set l j v) (suc j) (omega arith) (next f old l j v (omega (arith, g.same)) g first) (λ t b. e (suc t) (omega arith) ∙ ap f (shift t)))
  where
    shift : (t : ℕ) → j + suc t ≡ suc j + t
    shift t = omega arith

-- all of them
pub fill_end : (f : ℕ → ℕ) (old l : List ℕ) (j : ℕ) → length l ≤ j → Filled f old l j → l ≡ tabulate (length old) f
fill_end f old l j h g = filled_all f (length old) l g.same (λ k b. g.each k (omega (arith, g.same)))
