-- How the ring keeps its samples (02, f: "Keep a ring of 512 hourly samples, empty at first"). Every value of the struct is a ring.
use Rattle.std.specs.Prelude.{ℕ, zero, suc, ◌+◌, ◌-◌, ◌%◌, Bool, not, ◌&&◌, ◌||◌, cond, List, [], ◌∷◌, ◌++◌, get_or, set, take, drop, replicate, Option, None, Some, Result, Ok, Err, leb, eqb}
use Rattle.ring.specs.Samples.{Sample, steps_to, Telling, sample_of, blank, not_told}
use Rattle.ring.specs.declared.Ring.{Ring}
use Rattle.refusal.specs.Number.{number, answered}
use Rattle.refusal.specs.declared.Refusal.{Refusal}

abbrev pub empty_ring : Ring
empty_ring = record { any = 0; newest = 0; numbers = replicate 512 0; heights = replicate 512 0 }

-- the slot of the hour that is so much older than that of number n
abbrev pub slot_of : ℕ → ℕ → ℕ
slot_of n age = (n + 65536 - age) % 512

-- a sample is taken by a ring with or without a sample and with a newest number: its height is 0 to 100, and it is the first or 1 to 512
-- steps ahead of the newest
unfoldable pub takes : ℕ → ℕ → ℕ → ℕ → Bool
takes any newest sequence height =
    leb height 100 && (eqb any 0 || (leb 1 (steps_to newest sequence) && leb (steps_to newest sequence) 512))

-- the hours that a taken sample moves the ring on by: all of them with the first
unfoldable pub hours_on : ℕ → ℕ → ℕ → ℕ
hours_on any newest sequence = cond (eqb any 0) 512 (steps_to newest sequence)

-- numbers, of which the heights are those from index `from` on, in which the k hours before that of number n are blank
unfoldable pub blanked : ℕ → List ℕ → ℕ → ℕ → List ℕ
blanked from numbers n zero = numbers
blanked from numbers n (suc k) = set (blanked from numbers n k) (from + slot_of n (suc k)) 0

-- the ring with a sample more: the hours that were skipped are blank
unfoldable pub with_sample : Ring → ℕ → ℕ → Ring
with_sample r sequence height =
    record {
      any = 1;
      newest = sequence;
      numbers = set r.numbers (slot_of sequence 0) sequence;
      heights = set (blanked 0 r.heights sequence (hours_on r.any r.newest sequence - 1)) (slot_of sequence 0) (height + 1);
    }

-- the ring after a sample, and 0 or why it was refused
pub record Taken : Type 0 where
  pub number : ℕ
  pub ring : Ring

-- taking a sample: "refused (27) with nothing changed"
unfoldable pub taking : Ring → ℕ → ℕ → Taken
taking r sequence height =
    cond (takes r.any r.newest sequence height) (record { number = 0; ring = with_sample r sequence height }) (record { number = 27; ring = r })

-- what is told of the hour of an age from its slot: the sample's height where there is one and its age, from its number on to the newest, is
-- that one
unfoldable pub slot_hour : ℕ → ℕ → ℕ → ℕ → ℕ → Telling
slot_hour any newest number held age =
    cond (not (eqb any 0) && (eqb (steps_to number newest) age && (leb 1 held && leb held 101))) (sample_of (held - 1)) blank

-- what the ring tells of the hour of an age
unfoldable pub hour_in : Ring → ℕ → Telling
hour_in r age =
    let k = slot_of r.newest age in
    cond (leb age 511) (slot_hour r.any r.newest (get_or r.numbers k 0) (get_or r.heights k 0) age) (not_told 27)

-- the numbers of an answer, whose refusals have these numbers
unfoldable pub telling_by : {E : Type 0} → (E → ℕ) → Result (Option ℕ) E → Telling
telling_by number_in (Ok (Some h)) = record { number = 0; sampled = 1; height = h }
telling_by number_in (Ok None) = record { number = 0; sampled = 0; height = 0 }
telling_by number_in (Err r) = record { number = number_in r; sampled = 0; height = 0 }

-- 01's numbers of an answer
abbrev pub telling_of : Result (Option ℕ) Refusal → Telling
telling_of a = telling_by number a

-- the answer with these numbers
unfoldable pub hour_of : Telling → Result (Option ℕ) Refusal
hour_of t = answered t.number (cond (eqb t.sampled 0) None (Some t.height))

-- the answer to a sample: the ring after it, or its refusal
unfoldable pub taken_of : Taken → Result Ring Refusal
taken_of t = answered t.number t.ring

-- the ring after samples
unfoldable pub ring_after : Ring → List Sample → Ring
ring_after r [] = r
ring_after r (s ∷ ss) = ring_after (taking r s.sequence s.height).ring ss

-- the heights of the last n hours, oldest first; 0 for a blank hour
unfoldable pub heights_of : Ring → ℕ → List ℕ
heights_of r zero = []
heights_of r (suc n) = (hour_in r n).height ∷ heights_of r n

-- a ring as a C caller holds it: 1,026 numbers
abbrev pub ring_in : List ℕ → Ring
ring_in cells = record { any = get_or cells 0 0; newest = get_or cells 1 0; numbers = take 512 (drop 2 cells); heights = drop 514 cells }

abbrev pub cells_of : Ring → List ℕ
cells_of r = r.any ∷ r.newest ∷ (r.numbers ++ r.heights)
