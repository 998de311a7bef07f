-- The heights that a ring tells: how many, which hour each is of, none above 100.
use Prim.Native.Nat.{ℕ, zero, suc, ◌+◌, ◌-◌, ◌≤◌, ◌<◌}
use native.Mathlib.Numerals.{add-one}
use native.Mathlib.Omega.{arith}
use mathlib.Core.Path.{◌≡◌, refl, sym, ap, ◌∙◌}
use mathlib.Core.List.{List, ◌++◌, append-nil}
use mathlib.Core.Bool.{not, ◌&&◌}
use lib.ListN.{length, get_or, set, take, length-set}
use lib.Seq.{take-suc-set, append_snoc}
use lib.Dec.{leb, eqb}
use borrow.Author.Tests.{leb-true}
use Rattle.record.proofs.Choice.{and_right, both_ways}
use Rattle.ring.specs.Samples.{steps_to, Telling, sample_of, blank, not_told}
use Rattle.ring.specs.Kept.{slot_of, slot_hour, hour_in, heights_of}
use Rattle.ring.specs.declared.Ring.{Ring}

abbrev Low : Telling → Type 0
Low t = t.height ≤ 100

pub slot_low : (any newest number held age : ℕ) → (slot_hour any newest number held age).height ≤ 100
unfolding slot_hour
slot_low any newest number held age =
    both_ways Low (not (eqb any 0) && (eqb (steps_to number newest) age && (leb 1 held && leb held 101))) (sample_of (held - 1)) blank
    (λ e. omega (
      arith,
      leb-true held 101
          (and_right (leb 1 held) _ (and_right (eqb (steps_to number newest) age) _ (and_right (not (eqb any 0)) _ e))),
    ))
    (λ e. omega arith)

pub hour_low : (r : Ring) (age : ℕ) → (hour_in r age).height ≤ 100
unfolding hour_in
hour_low r age =
    let k = slot_of r.newest age in
    both_ways Low (leb age 511) (slot_hour r.any r.newest (get_or r.numbers k 0) (get_or r.heights k 0) age) (not_told 27)
    (λ e. slot_low r.any r.newest (get_or r.numbers k 0) (get_or r.heights k 0) age)
    (λ e. omega arith)

pub heights_count : (r : Ring) (n : ℕ) → length (heights_of r n) ≡ n
unfolding heights_of
heights_count r zero = refl
heights_count r (suc n) = ap suc (heights_count r n)

pub heights_low : (r : Ring) (n c : ℕ) → get_or (heights_of r n) c 0 ≤ 100
unfolding heights_of
heights_low r zero c = omega arith
heights_low r (suc n) zero = hour_low r n
heights_low r (suc n) (suc c) = heights_low r n c

-- column c from the left is the hour of age n − 1 − c
pub heights_at : (r : Ring) (n c : ℕ) → c < n → get_or (heights_of r n) c 0 ≡ (hour_in r (n - 1 - c)).height
unfolding heights_of
heights_at r zero c h = absurd (omega arith)
heights_at r (suc n) zero h = let e : n ≡ suc n - 1 - 0 = omega arith in ap (λ (a : ℕ). (hour_in r a).height) e
heights_at r (suc n) (suc c) h =
    let e : n - 1 - c ≡ suc n - 1 - suc c = omega arith in
    let g : c < n = omega arith in
    rw (← e) (heights_at r n c g)

-- the heights of the last hours, told into an array from the oldest on: i of them are there
pub record HeightsTo (r : Ring) (hours : ℕ) (heights : List ℕ) (i : ℕ) : Type 0 where
  pub few : hours ≤ 24
  pub upto : i ≤ hours
  pub size : length heights ≡ 24
  pub told : take i heights ++ heights_of r (hours - i) ≡ heights_of r hours

module _ (r : Ring) (hours : ℕ) where
  pub heights_none : (heights : List ℕ) → hours ≤ 24 → length heights ≡ 24 → HeightsTo r hours heights 0
  heights_none heights h n =
      let e : hours - 0 ≡ hours = omega arith in record { few = h; upto = omega arith; size = n; told = ap (heights_of r) e }

  pub heights_more : (heights : List ℕ) (i v : ℕ) (t : Telling) → HeightsTo r hours heights i → i < hours → v ≡ t.height → t ≡ hour_in r (hours - 1 - i)
      → HeightsTo r hours (set heights i v) (i + 1)
  unfolding heights_of
  heights_more heights i v t to h f g =
      let left : ℕ = hours - 1 - i in
      let here : hours - i ≡ suc left = omega arith in
      let next : hours - suc i ≡ left = omega arith in
      let e : v ≡ (hour_in r left).height = f ∙ ap (λ (x : Telling). x.height) g in
      record {
        few = to.few;
        upto = omega arith;
        size = length-set heights i v ∙ to.size;
        told = rw (add-one i, take-suc-set heights i v (omega arith), append_snoc, e, next) (rw here at to.told);
      }

  pub heights_all : (heights : List ℕ) (i : ℕ) → HeightsTo r hours heights i → hours ≤ i → (take hours heights ≡ heights_of r hours) × (length heights ≡ 24)
  unfolding heights_of
  heights_all heights i t h =
      let e : i ≡ hours = omega arith in
      let none : hours - hours ≡ 0 = omega arith in
      (sym (append-nil (take hours heights)) ∙ (rw (e, none) at t.told), t.size)
