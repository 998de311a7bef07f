-- What is claimed of the ring: it tells of each hour what the taken samples say, an old sample never comes back; and a C caller's ring is one.
use Rattle.std.specs.Prelude.{ℕ, ◌<◌, ◌≡◌, Bool, true, false, cond, List, [], ◌∷◌, eqb}
use Rattle.ring.specs.Samples.{Sample, is_taken, accepted, newest_of, telling, AllSequences}
use Rattle.ring.specs.Kept.{empty_ring, taking, hour_in, ring_after, ring_in, cells_of}
use Rattle.ring.specs.declared.Ring.{Ring}

abbrev pub is_none : List Sample → Bool
is_none [] = true
is_none (s ∷ ss) = false

-- a ring tells what taken samples say: whether there is one, the newest number, the hour of every age, and whether another is taken
pub record TellsOf (taken : List Sample) (r : Ring) : Type 0 where
  pub any : eqb r.any 0 ≡ is_none taken
  pub newest : r.newest ≡ newest_of taken
  pub hours : (age : ℕ) → hour_in r age ≡ telling taken age
  pub next : (s : Sample) → s.sequence < 65536 → (taking r s.sequence s.height).number ≡ cond (is_taken taken s) 0 27

-- from an empty ring, after any samples, taken or refused
abbrev pub RingTells : Type 0
RingTells = (came : List Sample) → AllSequences came → TellsOf (accepted came) (ring_after empty_ring came)

-- the numbers that a C caller holds after samples: each call leaves the ring with the sample in them
unfoldable pub cells_after : List ℕ → List Sample → List ℕ
cells_after cells [] = cells
cells_after cells (s ∷ ss) = cells_after (cells_of (taking (ring_in cells) s.sequence s.height).ring) ss

-- from an empty ring they are the ring after those samples, of which the above is claimed
abbrev pub CallerHolds : Type 0
CallerHolds = (came : List Sample) → ring_in (cells_after (cells_of empty_ring) came) ≡ ring_after empty_ring came
