-- What is told of an hour, as an answer.
use Prim.Native.Nat.{ℕ, ◌+◌, ◌-◌, ◌≤◌, ◌<◌}
use native.Mathlib.Omega.{arith}
use mathlib.Core.Path.{◌≡◌, refl, ap, ◌∙◌}
use mathlib.Core.Bool.{Bool, true, false, not, ◌&&◌}
use mathlib.Core.List.{List}
use lib.ListN.{get_or, take, drop}
use lib.Seq.{get_or-take, get_or-drop}
use lib.Dec.{leb, eqb}
use borrow.Author.Tests.{le-leb, lt-leb, leb-true}
use Rattle.record.proofs.Choice.{and_left, and_right}
use Rattle.ring.specs.Samples.{steps_to, Telling, not_told}
use Rattle.ring.specs.Kept.{slot_of, slot_hour, hour_in, telling_of, telling_by, hour_of, ring_in}
use Rattle.ring.specs.declared.Ring.{Ring}
use Rattle.std.specs.Prelude.{Option, None, Some, Result, Ok, Err}
use Rattle.refusal.specs.Number as refusals
use Rattle.refusal.specs.declared.Refusal.{Refusal}
use Rattle.refusal.specs.declared.Refusal.TheVariants.{WearRange}

-- whether a slot holds the sample of an age, at steps from its number to the newest
abbrev pub is_held : ℕ → ℕ → ℕ → ℕ → Bool
is_held any at held age = not (eqb any 0) && (eqb at age && (leb 1 held && leb held 101))

pub held_some : (any at held age : ℕ) → is_held any at held age ≡ true → 1 ≤ held
held_some any at held age h =
    let both = leb 1 held && leb held 101 in
    leb-true 1 held (and_left (leb 1 held) (leb held 101) (and_right (eqb at age) both (and_right (not (eqb any 0)) (eqb at age && both) h)))

-- an answer and its numbers
abbrev Answers : Result (Option ℕ) Refusal → Telling → Type 0
Answers h t = (telling_of h ≡ t) × (h ≡ hour_of t)

module _ (any newest number held age at : ℕ) (steps : at ≡ steps_to number newest) where
  pub answer_held : is_held any at held age ≡ true → Answers (Ok (Some (held - 1))) (slot_hour any newest number held age)
  unfolding telling_by hour_of slot_hour refusals.answered
  answer_held h = let t : is_held any (steps_to number newest) held age ≡ true = rw steps at h in (rw t, rw t)

  pub answer_blank : is_held any at held age ≡ false → Answers (Ok None) (slot_hour any newest number held age)
  unfolding telling_by hour_of slot_hour refusals.answered
  answer_blank h = let t : is_held any (steps_to number newest) held age ≡ false = rw steps at h in (rw t, rw t)

-- the hour of an age up to 511 is told from its slot
pub slot_told : (r : Ring) (age k : ℕ) → age ≤ 511 → k ≡ slot_of r.newest age
    → slot_hour r.any r.newest (get_or r.numbers k 0) (get_or r.heights k 0) age ≡ hour_in r age
unfolding hour_in
slot_told r age k h s = rw (s, le-leb age 511 h)

pub slot_tells : (r : Ring) (age k : ℕ) (t : Telling) → age ≤ 511 → k ≡ slot_of r.newest age
    → t ≡ slot_hour r.any r.newest (get_or r.numbers k 0) (get_or r.heights k 0) age → t ≡ hour_in r age
slot_tells r age k t h s e = e ∙ slot_told r age k h s

-- the same of a ring as a C caller holds it
number_in : (cells : List ℕ) (k : ℕ) → k < 512 → get_or (take 512 (drop 2 cells)) k 0 ≡ get_or cells (2 + k) 0
number_in cells k h = get_or-take 512 (drop 2 cells) k 0 h ∙ get_or-drop 2 cells k 0

height_in : (cells : List ℕ) (k : ℕ) → get_or (drop 514 cells) k 0 ≡ get_or cells (514 + k) 0
height_in cells k = get_or-drop 514 cells k 0

pub slot_told_in : (cells : List ℕ) (age k : ℕ) → age ≤ 511 → k ≡ slot_of (get_or cells 1 0) age
    → slot_hour (get_or cells 0 0) (get_or cells 1 0) (get_or cells (2 + k) 0) (get_or cells (514 + k) 0) age ≡ hour_in (ring_in cells) age
slot_told_in cells age k h s = rw (← (number_in cells k (omega arith)), ← (height_in cells k)) (slot_told (ring_in cells) age k h s)

-- the answer of the slot is that of the hour
pub answers : {t u : Telling} (h : Result (Option ℕ) Refusal) → t ≡ u → Answers h t → Answers h u
answers h e a = (a.0 ∙ e, a.1 ∙ ap hour_of e)

hour_past : (r : Ring) (age : ℕ) → 511 < age → not_told 27 ≡ hour_in r age
unfolding hour_in
hour_past r age h = rw (lt-leb age 511 h)

pub refuses : (r : Ring) (age : ℕ) → 511 < age → Answers (Err WearRange) (hour_in r age)
unfolding telling_by hour_of refusals.answered refusals.number refusals.refusal
refuses r age h = answers (Err WearRange) (hour_past r age h) (refl, refl)
