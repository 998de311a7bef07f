-- Samples in and hours out, computed, each held against 02's text; the same hours by the samples themselves.
use Prim.Native.Nat.{ℕ, zero, suc, ◌+◌, ◌%◌}
use native.Mathlib.Omega.{arith}
use mathlib.Core.Path.{◌≡◌, refl, ◌∙◌}
use mathlib.Core.Bool.{Bool, true, false}
use mathlib.Core.List.{List, [], ◌∷◌, ◌++◌, map}
use lib.ListN.{length, set, replicate}
use Rattle.ring.specs.Samples.{Sample, is_taken, taken_after, accepted, newest_of, Telling, hour_before, telling, AllSequences}
use Rattle.ring.specs.Kept.{empty_ring, takes, hours_on, blanked, with_sample, taking, slot_hour, hour_in, telling_of, telling_by, hour_of, ring_after, heights_of, ring_in, cells_of}
use Rattle.ring.specs.Claims.{is_none}
use Rattle.ring.specs.declared.Ring.{Ring}
use Rattle.std.specs.Prelude.{None, Some, Ok, Err}
use Rattle.refusal.specs.Number as refusals
use Rattle.refusal.specs.declared.Refusal.TheVariants.{WearRange}
use Rattle.ring.proofs.Tells.{ring_tells}

abbrev at : ℕ → ℕ → Sample
at sequence height = record { sequence = sequence; height = height }

-- the numbers of what is told: 0 or why not, whether there is a sample, its height
abbrev three : Telling → List ℕ
three t = t.number ∷ t.sampled ∷ t.height ∷ []

-- a sample of a height, a blank hour, an hour that is not told
abbrev height : ℕ → List ℕ
height h = 0 ∷ 1 ∷ h ∷ []

abbrev none : List ℕ
none = 0 ∷ 0 ∷ 0 ∷ []

abbrev past : List ℕ
past = 27 ∷ 0 ∷ 0 ∷ []

-- what the ring tells of ages, and what the samples say of them
abbrev told : Ring → List ℕ → List (List ℕ)
told r ages = map (λ age. three (hour_in r age)) ages

abbrev said : List Sample → List ℕ → List (List ℕ)
said came ages = let taken = accepted came in map (λ age. three (telling taken age)) ages

-- whether samples are taken after samples, by the ring and by the samples
abbrev answers : List Sample → List Sample → List ℕ
answers came more = let r = ring_after empty_ring came in map (λ s. (taking r s.sequence s.height).number) more

abbrev fit : List Sample → List Sample → List Bool
fit came more = let taken = accepted came in map (λ s. is_taken taken s) more

-- ---- the empty ring: every age is blank, and any number may be the first

pub empty : (told empty_ring (0 ∷ 1 ∷ 511 ∷ 512 ∷ []) ≡ none ∷ none ∷ none ∷ past ∷ [])
    × (said [] (0 ∷ 1 ∷ 511 ∷ 512 ∷ []) ≡ none ∷ none ∷ none ∷ past ∷ [])
    × (is_none [] ≡ true)
    × (newest_of [] ≡ 0)
    × (empty_ring.any ≡ 0)
    × (empty_ring.newest ≡ 0)
    × (empty_ring.numbers ≡ replicate 512 0)
    × (empty_ring.heights ≡ replicate 512 0)
unfolding taken_after hour_before telling slot_hour hour_in
empty = (refl, refl, refl, refl, refl, refl, refl, refl)

pub first : (answers [] (at 0 0 ∷ at 40000 30 ∷ at 65535 100 ∷ at 7 101 ∷ []) ≡ 0 ∷ 0 ∷ 0 ∷ 27 ∷ [])
    × (fit [] (at 0 0 ∷ at 40000 30 ∷ at 65535 100 ∷ at 7 101 ∷ []) ≡ true ∷ true ∷ true ∷ false ∷ [])
    × (told (ring_after empty_ring (at 40000 30 ∷ [])) (0 ∷ 1 ∷ 511 ∷ []) ≡ height 30 ∷ none ∷ none ∷ [])
    × (said (at 40000 30 ∷ []) (0 ∷ 1 ∷ 511 ∷ []) ≡ height 30 ∷ none ∷ none ∷ [])
    × ((ring_after empty_ring (at 40000 30 ∷ [])).newest ≡ 40000)
    × (newest_of (accepted (at 40000 30 ∷ [])) ≡ 40000)
    × (is_none (at 40000 30 ∷ []) ≡ false)
unfolding taken_after hour_before telling takes hours_on blanked with_sample taking slot_hour hour_in ring_after
first = (refl, refl, refl, refl, refl, refl, refl)

-- ---- steps: 1 to 512 are taken, none, one behind and 513 are refused; heights up to 100

abbrev next : List Sample
next = at 101 0 ∷ at 612 100 ∷ at 613 5 ∷ at 100 5 ∷ at 99 5 ∷ at 101 101 ∷ at 33000 5 ∷ []

pub steps : (answers (at 100 5 ∷ []) next ≡ 0 ∷ 0 ∷ 27 ∷ 27 ∷ 27 ∷ 27 ∷ 27 ∷ [])
    × (fit (at 100 5 ∷ []) next ≡ true ∷ true ∷ false ∷ false ∷ false ∷ false ∷ false ∷ [])
    × (answers (at 65535 5 ∷ []) (at 0 1 ∷ at 511 1 ∷ at 512 1 ∷ at 65534 1 ∷ []) ≡ 0 ∷ 0 ∷ 27 ∷ 27 ∷ [])
    × (fit (at 65535 5 ∷ []) (at 0 1 ∷ at 511 1 ∷ at 512 1 ∷ at 65534 1 ∷ []) ≡ true ∷ true ∷ false ∷ false ∷ [])
unfolding taken_after takes hours_on blanked with_sample taking ring_after
steps = (refl, refl, refl, refl)

-- one step, an age that the numbers come round in, and a refused sample: nothing changed
abbrev round_once : List Sample
round_once = at 65534 10 ∷ at 65535 20 ∷ at 0 101 ∷ at 65535 30 ∷ at 0 40 ∷ at 2 50 ∷ []

pub wrapped : (told (ring_after empty_ring round_once) (0 ∷ 1 ∷ 2 ∷ 3 ∷ 4 ∷ 5 ∷ []) ≡ height 50 ∷ none ∷ height 40 ∷ height 20 ∷ height 10 ∷ none ∷ [])
    × (said round_once (0 ∷ 1 ∷ 2 ∷ 3 ∷ 4 ∷ 5 ∷ []) ≡ height 50 ∷ none ∷ height 40 ∷ height 20 ∷ height 10 ∷ none ∷ [])
    × (heights_of (ring_after empty_ring round_once) 6 ≡ 0 ∷ 10 ∷ 20 ∷ 40 ∷ 0 ∷ 50 ∷ [])
    × (accepted round_once ≡ at 2 50 ∷ at 0 40 ∷ at 65535 20 ∷ at 65534 10 ∷ [])
    × ((ring_after empty_ring round_once).newest ≡ 2)
unfolding taken_after hour_before telling takes hours_on blanked with_sample taking slot_hour hour_in ring_after heights_of
wrapped = (refl, refl, refl, refl, refl)

-- ---- the oldest: 511 hours back it is told, 512 steps on it has fallen off

pub oldest : (told (ring_after empty_ring (at 100 5 ∷ at 611 6 ∷ [])) (0 ∷ 1 ∷ 510 ∷ 511 ∷ 512 ∷ []) ≡ height 6 ∷ none ∷ none ∷ height 5 ∷ past ∷ [])
    × (said (at 100 5 ∷ at 611 6 ∷ []) (0 ∷ 1 ∷ 510 ∷ 511 ∷ 512 ∷ []) ≡ height 6 ∷ none ∷ none ∷ height 5 ∷ past ∷ [])
    × (told (ring_after empty_ring (at 100 5 ∷ at 612 6 ∷ [])) (0 ∷ 1 ∷ 511 ∷ 512 ∷ 4000000000 ∷ []) ≡ height 6 ∷ none ∷ none ∷ past ∷ past ∷ [])
    × (said (at 100 5 ∷ at 612 6 ∷ []) (0 ∷ 1 ∷ 511 ∷ 512 ∷ 4000000000 ∷ []) ≡ height 6 ∷ none ∷ none ∷ past ∷ past ∷ [])
unfolding taken_after hour_before telling takes hours_on blanked with_sample taking slot_hour hour_in ring_after
oldest = (refl, refl, refl, refl)

-- ---- skipped again and again until the numbers have come round: the hour of number 0, 65,536 hours after its sample, is blank

-- the slot of number 0 still holds its sample, the newest number being 65,535, and is skipped once more
abbrev stale : Ring
stale = record { any = 1; newest = 65535; numbers = set (replicate 512 0) 511 65535; heights = set (set (replicate 512 0) 0 8) 511 2 }

pub skipped : (told stale (0 ∷ 511 ∷ []) ≡ height 1 ∷ none ∷ []) × (told (ring_after stale (at 511 1 ∷ [])) (0 ∷ 511 ∷ []) ≡ height 1 ∷ none ∷ [])
unfolding takes hours_on blanked with_sample taking slot_hour hour_in ring_after
skipped = (refl, refl)

-- the whole way round: k samples 512 steps apart from number n on
abbrev apart : ℕ → ℕ → List Sample
apart zero n = []
apart (suc k) n = at (n % 65536) 1 ∷ apart k (n + 512)

apart_low : (k n : ℕ) → AllSequences (apart k n)
unfolding AllSequences
apart_low zero n = tt
apart_low (suc k) n = (omega arith, apart_low k (n + 512))

abbrev way : List Sample
way = at 0 7 ∷ apart 129 511

way_low : AllSequences way
unfolding AllSequences
way_low = (omega arith, apart_low 129 511)

way_says : (length (accepted way) ≡ 130) × (newest_of (accepted way) ≡ 511) × (telling (accepted way) 511 ≡ record { number = 0; sampled = 0; height = 0 })
unfolding taken_after hour_before telling
way_says = (refl, refl, refl)

pub way_round : hour_in (ring_after empty_ring way) 511 ≡ record { number = 0; sampled = 0; height = 0 }
way_round = (ring_tells way way_low).hours 511 ∙ way_says.2

-- before it is skipped it is told
pub way_begun : said (at 0 7 ∷ apart 1 511) (0 ∷ 511 ∷ []) ≡ height 1 ∷ height 7 ∷ []
unfolding taken_after hour_before telling
way_begun = refl

-- ---- any value is a ring

-- without a sample, whatever its arrays hold, each age is blank; with the first sample the others still are
abbrev junk : Ring
junk = record { any = 0; newest = 9; numbers = 512 ∷ 1 ∷ 2 ∷ 3 ∷ replicate 508 9; heights = replicate 512 50 }

pub junk_blank : (told junk (0 ∷ 6 ∷ 7 ∷ 8 ∷ 511 ∷ []) ≡ none ∷ none ∷ none ∷ none ∷ none ∷ [])
    × (told (ring_after junk (at 10 60 ∷ [])) (0 ∷ 1 ∷ 7 ∷ 8 ∷ 9 ∷ 511 ∷ []) ≡ height 60 ∷ none ∷ none ∷ none ∷ none ∷ none ∷ [])
    × ((ring_after junk (at 10 60 ∷ [])).any ≡ 1)
unfolding takes hours_on blanked with_sample taking slot_hour hour_in ring_after
junk_blank = (refl, refl, refl)

-- the slots of numbers 9, 8, 7 and 6 hold 101, 102, 1 and a sample of another number
abbrev odd : Ring
odd = record {
  any = 3;
  newest = 9;
  numbers = 0 ∷ 0 ∷ 0 ∷ 0 ∷ 0 ∷ 0 ∷ 518 ∷ 7 ∷ 8 ∷ 9 ∷ replicate 502 0;
  heights = 0 ∷ 0 ∷ 0 ∷ 0 ∷ 0 ∷ 0 ∷ 50 ∷ 1 ∷ 102 ∷ 101 ∷ replicate 502 0;
}

pub odd_told : told odd (0 ∷ 1 ∷ 2 ∷ 3 ∷ 9 ∷ []) ≡ height 100 ∷ none ∷ height 0 ∷ none ∷ none ∷ []
unfolding slot_hour hour_in
odd_told = refl

-- ---- answers, and the ring of a C caller: two numbers, then 512 numbers and 512 heights

pub answer_numbers : (map (λ h. three (telling_of h)) (Ok (Some 5) ∷ Ok None ∷ Err WearRange ∷ []) ≡ height 5 ∷ none ∷ past ∷ [])
    × (map hour_of (telling_of (Ok (Some 0)) ∷ telling_of (Ok None) ∷ telling_of (Err WearRange) ∷ []) ≡ Ok (Some 0) ∷ Ok None ∷ Err WearRange ∷ [])
unfolding telling_by hour_of refusals.answered refusals.number refusals.refusal
answer_numbers = (refl, refl)

abbrev cells : List ℕ
cells = 1 ∷ 9 ∷ (replicate 511 7 ++ (8 ∷ replicate 511 3 ++ (4 ∷ [])))

pub cells_held : ((ring_in cells).any ≡ 1)
    × ((ring_in cells).newest ≡ 9)
    × ((ring_in cells).numbers ≡ replicate 511 7 ++ (8 ∷ []))
    × ((ring_in cells).heights ≡ replicate 511 3 ++ (4 ∷ []))
    × (cells_of (ring_in cells) ≡ cells)
cells_held = (refl, refl, refl, refl, refl)

-- what a sample changes: the skipped slots, and its own
pub stored : (cells_of (ring_after (ring_in (1 ∷ 9 ∷ (replicate 512 7 ++ replicate 512 3))) (at 12 20 ∷ []))
    ≡ 1 ∷ 12 ∷ (set (replicate 512 7) 12 12 ++ set (set (set (replicate 512 3) 10 0) 11 0) 12 21))
unfolding takes hours_on blanked with_sample taking ring_after
stored = refl
