-- The hours before a number stand in one run of slots, or in two where they come round: made blank by runs of zeros.
use Prim.Native.Nat.{ℕ, zero, suc, ◌+◌, ◌-◌, ◌≤◌, ◌<◌}
use native.Mathlib.Nat.{add-zero, add-suc, suc-add}
use native.Mathlib.Omega.{arith}
use mathlib.Core.Path.{◌≡◌, refl, sym, ap, ◌∙◌}
use mathlib.Core.List.{List}
use lib.ListN.{set, replicate}
use lib.Seq.{set_comm, sets}
use Rattle.ring.specs.Kept.{slot_of, blanked}

-- so many zeros stored from a place on
abbrev pub zeros : List ℕ → ℕ → ℕ → List ℕ
zeros l i n = sets l i (replicate n 0)

pub zeros_none : (l : List ℕ) (from : ℕ) → l ≡ zeros l from (from - from)
zeros_none l from = let e : from - from ≡ 0 = omega arith in rw e

-- a run of zeros with one more after it
after : (l : List ℕ) (i n : ℕ) → set (zeros l i n) (i + n) 0 ≡ zeros l i (suc n)
after l i zero = rw add-zero
after l i (suc n) = rw (add-suc, ← suc-add) (after (set l i 0) (suc i) n)

pub zeros_turn : (l cells : List ℕ) (from i : ℕ) → from ≤ i → cells ≡ zeros l from (i - from) → set cells i 0 ≡ zeros l from (i + 1 - from)
zeros_turn l cells from i h e =
    let at : i ≡ from + (i - from) = omega arith in
    let more : suc (i - from) ≡ i + 1 - from = omega arith in
    ap (λ (x : List ℕ). set x i 0) e
    ∙ ap (λ (x : ℕ). set (zeros l from (i - from)) x 0) at
    ∙ after l from (i - from)
    ∙ ap (zeros l from) more

-- a run of zeros with one more before it
apart : (l : List ℕ) (i j n : ℕ) → i < j → set (zeros l j n) i 0 ≡ zeros (set l i 0) j n
apart l i j zero h = refl
apart l i j (suc n) h = apart (set l j 0) i (suc j) n (omega arith) ∙ ap (λ (x : List ℕ). zeros x (suc j) n) (set_comm l j i 0 0 (λ e. omega arith))

before : (l : List ℕ) (i j n : ℕ) → j ≡ suc i → set (zeros l j n) i 0 ≡ zeros l i (suc n)
before l i j n e = apart l i j n (omega arith) ∙ ap (λ (x : ℕ). zeros (set l i 0) x n) e

-- k hours whose slots do not come round
one_run : (from : ℕ) (l : List ℕ) (n k : ℕ) → k ≤ slot_of n 0 → zeros l (from + slot_of n 0 - k) k ≡ blanked from l n k
unfolding blanked
one_run from l n zero h = refl
one_run from l n (suc k) h =
    let i : ℕ = from + slot_of n (suc k) in
    let here : from + slot_of n 0 - suc k ≡ i = omega arith in
    let next : from + slot_of n 0 - k ≡ suc i = omega arith in
    ap (λ (x : ℕ). zeros l x (suc k)) here
    ∙ sym (before l i (from + slot_of n 0 - k) k next)
    ∙ ap (λ (x : List ℕ). set x i 0) (one_run from l n k (omega arith))

-- hours whose slots come round, k of them in the upper run
two_runs : (from : ℕ) (l : List ℕ) (n k : ℕ) → slot_of n 0 + k ≤ 511
    → zeros (zeros l from (slot_of n 0)) (from + 512 - k) k ≡ blanked from l n (slot_of n 0 + k)
unfolding blanked
two_runs from l n zero h =
    let here : from ≡ from + slot_of n 0 - slot_of n 0 = omega arith in
    ap (λ (x : ℕ). zeros l x (slot_of n 0)) here ∙ one_run from l n (slot_of n 0) (omega arith) ∙ ap (blanked from l n) (sym (add-zero (slot_of n 0)))
two_runs from l n (suc k) h =
    let lower : List ℕ = zeros l from (slot_of n 0) in
    let i : ℕ = from + slot_of n (suc (slot_of n 0 + k)) in
    let here : from + 512 - suc k ≡ i = omega arith in
    let next : from + 512 - k ≡ suc i = omega arith in
    ap (λ (x : ℕ). zeros lower x (suc k)) here
    ∙ sym (before lower i (from + 512 - k) k next)
    ∙ ap (λ (x : List ℕ). set x i 0) (two_runs from l n k (omega arith))
    ∙ ap (blanked from l n) (sym (add-suc (slot_of n 0) k))

-- the runs by their ends
abbrev between : List ℕ → ℕ → ℕ → List ℕ
between l from to = zeros l from (to - from)

module _ (from : ℕ) (l : List ℕ) (n k at : ℕ) (slot : at ≡ slot_of n 0) where
  pub blank_one : (cells : List ℕ) → k ≤ at → cells ≡ between l (from + at - k) (from + at) → cells ≡ blanked from l n k
  blank_one cells h e =
      let m : from + at - (from + at - k) ≡ k = omega arith in
      e ∙ ap (zeros l (from + at - k)) m ∙ ap (λ (x : ℕ). zeros l (from + x - k) k) slot ∙ one_run from l n k (omega arith)

  pub blank_two : (lower cells : List ℕ) → at ≤ k → k ≤ 511 → lower ≡ between l from (from + at)
      → cells ≡ between lower (from + 512 - (k - at)) (from + 512) → cells ≡ blanked from l n k
  blank_two lower cells h b d e =
      let m : from + 512 - (from + 512 - (k - at)) ≡ k - at = omega arith in
      let o : from + at - from ≡ at = omega arith in
      let all : slot_of n 0 + (k - slot_of n 0) ≡ k = omega arith in
      e
      ∙ ap (zeros lower (from + 512 - (k - at))) m
      ∙ ap (λ (x : List ℕ). zeros x (from + 512 - (k - at)) (k - at)) (d ∙ ap (zeros l from) o)
      ∙ ap (λ (x : ℕ). zeros (zeros l from x) (from + 512 - (k - x)) (k - x)) slot
      ∙ two_runs from l n (k - slot_of n 0) (omega arith)
      ∙ ap (blanked from l n) all
