-- Hourly samples and their ages (02, f), over the samples themselves: which are taken, and what is told of each hour.
use Rattle.std.specs.Prelude.{ℕ, ◌+◌, ◌-◌, ◌%◌, ◌<◌, Bool, true, ◌&&◌, cond, List, [], ◌∷◌, leb, ltb, eqb}

-- a sample: its sequence number and its height
pub record Sample : Type 0 where
  pub sequence : ℕ
  pub height : ℕ

-- steps from one sequence number on to another: "Sequence numbers run on from 65,535 to 0"
abbrev pub steps_to : ℕ → ℕ → ℕ
steps_to from to = (to + 65536 - from) % 65536

-- "A sample is taken when it is the first or 1 to 512 steps ahead of the newest": after taken samples, newest first
abbrev pub follows : List Sample → ℕ → Bool
follows [] sequence = true
follows (s ∷ ss) sequence = leb 1 (steps_to s.sequence sequence) && leb (steps_to s.sequence sequence) 512

-- "any other, or a height above 100, is refused"
abbrev pub is_taken : List Sample → Sample → Bool
is_taken before s = leb s.height 100 && follows before s.sequence

-- the taken samples, newest first, after more samples have come
unfoldable pub taken_after : List Sample → List Sample → List Sample
taken_after before [] = before
taken_after before (s ∷ ss) = taken_after (cond (is_taken before s) (s ∷ before) before) ss

-- the samples that are taken, newest first, of those that came
abbrev pub accepted : List Sample → List Sample
accepted came = taken_after [] came

-- the newest sequence number; 0 where there is none
abbrev pub newest_of : List Sample → ℕ
newest_of [] = 0
newest_of (s ∷ ss) = s.sequence

-- what is told of an hour: 0 or why not, whether there is a sample (1, else 0: blank), and its height
pub record Telling : Type 0 where
  pub number : ℕ
  pub sampled : ℕ
  pub height : ℕ

abbrev pub sample_of : ℕ → Telling
sample_of height = record { number = 0; sampled = 1; height = height }

abbrev pub blank : Telling
blank = record { number = 0; sampled = 0; height = 0 }

abbrev pub not_told : ℕ → Telling
not_told n = record { number = n; sampled = 0; height = 0 }

-- the hour so many before that of number n: each sample is as many hours older than the one after it as there are steps between them, and
-- "hours without a sample are blank"
unfoldable pub hour_before : ℕ → List Sample → ℕ → Telling
hour_before n [] age = blank
hour_before n (s ∷ ss) age =
    let d = steps_to s.sequence n in
    cond (ltb age d) blank
    (cond (eqb age d) (sample_of s.height) (hour_before s.sequence ss (age - d)))

-- "Each hour's height, or blank, is told by its age, 0 for the newest to 511 (above, 27)"
unfoldable pub telling : List Sample → ℕ → Telling
telling taken age = cond (leb age 511) (hour_before (newest_of taken) taken age) (not_told 27)

-- samples of 16-bit sequence numbers
unfoldable pub AllSequences : List Sample → Type 0
AllSequences [] = Unit {0}
AllSequences (s ∷ ss) = (s.sequence < 65536) × AllSequences ss
