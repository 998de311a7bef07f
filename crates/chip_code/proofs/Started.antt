-- A started blit as crate `blit_code` takes it: its limits, and that it is what the registers say.
use Prim.Native.Nat.{ℕ, zero, suc, ◌+◌, ◌-◌, ◌*◌, ◌%◌, ◌≤◌, ◌<◌}
use mathlib.Core.Path.{◌≡◌, refl}
use mathlib.Core.Bool.{Bool, true, false, ◌&&◌, cond}
use mathlib.Core.List.{List}
use native.Mathlib.Nat.{suc-mul}
use native.Mathlib.Numerals.{add-one}
use native.Mathlib.Omega.{arith}
use lib.Dec.{eqb, leb}
use borrow.Author.Tests.{eqb-true, leb-true}
use Rattle.record.proofs.Choice.{and_left, and_right}
use Rattle.blit.specs.Job.{performed, LineIn, SourceIn, JobOk}
use Rattle.chip.specs.Start.{operation, bytes_of, line_of, width_of, height_of, source_of, destination_of, pattern_base, whole_at, source_fits, startable, span, forward, backward, pattern_within, within, mix_by, from_by, job_of, started}
use Rattle.chip.specs.declared.Registers.{Registers}
use Rattle.chip.proofs.Starts.{operations}

-- ---- the limits of a started blit

-- lines of a whole number of 16-bit words hold whole pixels
whole_line : (n k : ℕ) → 0 < n → n ≤ 2 → 2 * k % n ≡ 0
whole_line zero k p q = absurd (omega arith)
whole_line (suc zero) k p q = omega arith
whole_line (suc (suc zero)) k p q = omega arith
whole_line (suc (suc (suc n))) k p q = absurd (omega arith)

-- the last line's pixels, w and h being one less than width and height
module _ (h l w n : ℕ) where
  last_line_lem : (h + 1 - 1) * l + (w + 1) * n ≡ h * l + w * n + n
  last_line_lem =
      let e : h + 1 - 1 ≡ h = omega arith in
      rw (e, add-one w, suc-mul w n) (omega arith)

  line_up : (a m : ℕ) → a + (h * l + w * n) + n ≤ m → a + ((h + 1 - 1) * l + (w + 1) * n) ≤ m
  line_up a m p = rw last_line_lem (omega arith)

  line_down : (a : ℕ) → h * l + w * n ≤ a → (h + 1 - 1) * l + (w + 1) * n ≤ a + n
  line_down a p = rw last_line_lem (omega arith)

module _ (m : ℕ) (b : Registers) where
  reach : (down : Bool) (a : ℕ) → cond down (backward m b a) (forward m b a) ≡ true
      → LineIn down (bytes_of b) (line_of b) (width_of b) a m (height_of b - 1)
  unfolding span
  reach true a e = (
    line_down (b.height % 1024) (line_of b) (b.width % 1024) (bytes_of b) a (leb-true _ _ (and_left _ _ e)),
    leb-true _ _ (and_right (leb (span b) a) _ e),
  )
  reach false a e = line_up (b.height % 1024) (line_of b) (b.width % 1024) (bytes_of b) a m (leb-true _ _ e)

  -- a startable blit that lies in the memory: its destination, a move's source on whole pixels, and a pattern
  module _ (can : startable b ≡ true) (inside : within m b ≡ true) where
    to_in : LineIn (eqb (operation b) 3) (bytes_of b) (line_of b) (width_of b) (destination_of b) m (height_of b - 1)
    unfolding within
    to_in =
        operations b can
        (λ e. rw e (reach false (destination_of b) (rw e at inside)))
        (λ e. rw e (reach false (destination_of b) (and_left (forward m b (destination_of b)) (forward m b (source_of b)) (rw e at inside))))
        (λ e. rw e (reach true (destination_of b) (and_left (backward m b (destination_of b)) (backward m b (source_of b)) (rw e at inside))))
        (λ e. rw e (reach false (destination_of b) (and_left (forward m b (destination_of b)) (forward m b (source_of b)) (rw e at inside))))
        (λ e. rw e (reach false (destination_of b) (and_left (forward m b (destination_of b)) (pattern_within m b) (rw e at inside))))
        (λ e. rw e (reach false (destination_of b) (and_left (forward m b (destination_of b)) (pattern_within m b) (rw e at inside))))
        (λ e. rw e (reach false (destination_of b) (rw e at inside)))

    -- a source read in positive direction, and a pattern
    up_in : (forward m b (destination_of b) && forward m b (source_of b)) ≡ true → (whole_at b (source_of b) && whole_at b (destination_of b)) ≡ true
        → LineIn false (bytes_of b) (line_of b) (width_of b) (source_of b) m (height_of b - 1) × (source_of b % bytes_of b ≡ 0)
    up_in i w = (
      reach false (source_of b) (and_right (forward m b (destination_of b)) (forward m b (source_of b)) i),
      eqb-true _ _ (and_left (whole_at b (source_of b)) (whole_at b (destination_of b)) w),
    )

    pattern_in : (forward m b (destination_of b) && pattern_within m b) ≡ true → (false ≡ false) × (pattern_base b + 64 * bytes_of b ≤ m)
    pattern_in i = (refl, leb-true _ _ (and_right (forward m b (destination_of b)) (pattern_within m b) i))

    -- a write has no source in memory
    from_in : (operation b ≡ 0 → ⊥) → SourceIn (from_by b) (mix_by b) (eqb (operation b) 3) (bytes_of b) (line_of b) (width_of b) m (height_of b - 1)
    unfolding startable source_fits within mix_by from_by
    from_in some =
        operations b can
        (λ e. absurd (some e))
        (λ e. rw e (up_in (rw e at inside) (rw e at can)))
        (λ e. rw e (
          reach true (source_of b) (and_right (backward m b (destination_of b)) (backward m b (source_of b)) (rw e at inside)),
          eqb-true _ _ (and_left (whole_at b (source_of b)) (whole_at b (destination_of b)) (rw e at can)),
        ))
        (λ e. rw e (up_in (rw e at inside) (rw e at can)))
        (λ e. rw e (pattern_in (rw e at inside)))
        (λ e. rw e (pattern_in (rw e at inside)))
        (λ e. rw e (refl, refl))

    whole_destination : destination_of b % bytes_of b ≡ 0
    unfolding startable
    whole_destination = eqb-true _ _ (and_right (source_fits b) (whole_at b (destination_of b)) can)

    -- it keeps to the limits
    pub job_limits : (operation b ≡ 0 → ⊥) → m ≤ 262144 → JobOk m (job_of b)
    unfolding job_of
    job_limits some few =
        record {
          some_bytes = omega arith;
          few_bytes = omega arith;
          line = omega arith;
          even_line = whole_line (bytes_of b) (b.offset % 2048) (omega arith) (omega arith);
          width = omega arith;
          some_height = omega arith;
          height = omega arith;
          even = whole_destination;
          memory = few;
          destination = to_in;
          source = from_in some;
        }

-- ---- the started blit as a job

pub job_started : (b : Registers) → startable b ≡ true → (operation b ≡ 0 → ⊥) → (old : List ℕ) → performed (job_of b) old ≡ started b old
unfolding started
job_started b can some old = operations b can (λ e. absurd (some e)) (λ e. rw e) (λ e. rw e) (λ e. rw e) (λ e. rw e) (λ e. rw e) (λ e. rw e)
