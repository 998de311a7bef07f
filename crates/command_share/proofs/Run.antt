-- One line decides whether lines meet a run of bytes, and a run whether two blocks of lines share a byte.
use Prim.Native.Nat.{ℕ, zero, suc, ◌+◌, ◌-◌, ◌*◌, ◌/◌, ◌<◌, ◌≤◌}
use mathlib.Core.Path.{◌≡◌, refl, sym, ap, ◌∙◌}
use mathlib.Core.Bool.{Bool, true, false, ◌&&◌}
use mathlib.Core.Logic.{⊎_elim}
use native.Mathlib.Omega.{arith}
use native.Mathlib.Nat.{mul-zero, zero-mul, one-mul, add-mul, add-zero, mul-le-mul_right, sub-add_cancel, le_of_lt, div-lt_iff_lt-mul, lt-div-mul-add}
use lib.Dec.{ltb}
use borrow.Author.Tests.{ltb-true, lt-ltb, le-ltb}
use Rattle.record.proofs.Choice.{below_or_not, and_left, and_right}
use Rattle.command.specs.Sharing.{meet, any_of, share_byte}
use Rattle.command.proofs.Sharing.{same_truth, any_found, any_holds, Meets, meet_true, meets_true}
use Rattle.command_share.specs.Run.{lines_meet, first_past}

-- ---- two runs of bytes meet when each starts before the other ends and neither is empty
pub meet_is : (a n b k : ℕ) → ((ltb a (b + k) && ltb b (a + n)) && (ltb 0 n && ltb 0 k)) ≡ meet a n b k
meet_is a n b k =
    same_truth _ (meet a n b k)
    (λ e. meets_true a n b k (apart e))
    (λ e. together (meet_true a n b k e))
  where
    apart : ((ltb a (b + k) && ltb b (a + n)) && (ltb 0 n && ltb 0 k)) ≡ true → Meets a n b k
    apart e =
        let p = and_left (ltb a (b + k) && ltb b (a + n)) (ltb 0 n && ltb 0 k) e in
        let q = and_right (ltb a (b + k) && ltb b (a + n)) (ltb 0 n && ltb 0 k) e in
        record {
          some = ltb-true 0 n (and_left (ltb 0 n) (ltb 0 k) q);
          any = ltb-true 0 k (and_right (ltb 0 n) (ltb 0 k) q);
          before = ltb-true a (b + k) (and_left (ltb a (b + k)) (ltb b (a + n)) p);
          after = ltb-true b (a + n) (and_right (ltb a (b + k)) (ltb b (a + n)) p);
        }

    together : Meets a n b k → ((ltb a (b + k) && ltb b (a + n)) && (ltb 0 n && ltb 0 k)) ≡ true
    together m = rw (lt-ltb a (b + k) m.before, lt-ltb b (a + n) m.after, lt-ltb 0 n m.some, lt-ltb 0 k m.any)

-- ---- the first line that ends past a
module _ (at line size a : ℕ) where
  pub first_is_0 : a < at + size → first_past at line size a ≡ 0
  unfolding first_past
  first_is_0 h = rw (lt-ltb a (at + size) h)

  pub first_is_later : at + size ≤ a → first_past at line size a ≡ (a - (at + size)) / line + 1
  unfolding first_past
  first_is_later h = rw (le-ltb a (at + size) h)

  -- a later line ends past a where the first does not: so they do not all stand in one place
  apart_lines : (j : ℕ) → at + size ≤ a → a < at + j * line + size → 0 < line
  apart_lines j h k = positive line refl
    where
      positive : (l : ℕ) → line ≡ l → 0 < line
      positive zero e = let z : j * line ≡ 0 = rw (e, mul-zero) in absurd (omega arith)
      positive (suc l) e = omega arith

  -- it ends past a, and no earlier line does
  first_least : (j : ℕ) → a < at + j * line + size → (first_past at line size a ≤ j) × (a < at + first_past at line size a * line + size)
  first_least j k = ⊎_elim early late (below_or_not a (at + size))
    where
      early : a < at + size → (first_past at line size a ≤ j) × (a < at + first_past at line size a * line + size)
      early h = rw (first_is_0 h, zero-mul) (omega arith, omega arith)

      late : at + size ≤ a → (first_past at line size a ≤ j) × (a < at + first_past at line size a * line + size)
      late h =
          let l = apart_lines j h k in
          let d : (a - (at + size)) / line < j = (div-lt_iff_lt-mul l).1 (omega arith) in
          let m : a - (at + size) < (a - (at + size)) / line * line + line = lt-div-mul-add l in
          rw (first_is_later h) (omega arith, rw (add-mul, one-mul) (omega arith))

-- ---- one line decides
pub by_first : (at line size count a n : ℕ) → lines_meet at line size count a n ≡ (ltb (first_past at line size a) count && meet (at + first_past at line size a * line) size a n)
unfolding lines_meet
by_first at line size count a n =
    same_truth _ (ltb (first_past at line size a) count && meet (at + first_past at line size a * line) size a n) narrowed
    (λ e. any_holds count _ (first_past at line size a) (ltb-true _ count (and_left (ltb (first_past at line size a) count) _ e)) (and_right (ltb (first_past at line size a) count) _ e))
  where
    narrowed : any_of count (λ j. meet (at + j * line) size a n) ≡ true → (ltb (first_past at line size a) count && meet (at + first_past at line size a * line) size a n) ≡ true
    narrowed e =
        let w = any_found count _ e in
        let m = meet_true (at + w.k * line) size a n w.passes in
        let f = first_least at line size a w.k m.after in
        let l = mul-le-mul_right line f.0 in
        rw (lt-ltb (first_past at line size a) count (omega arith))
        (meets_true (at + first_past at line size a * line) size a n (record { some = m.some; any = m.any; before = omega arith; after = f.1 }))

-- the same as code asks: there is no such line, or it is compared
pub line_beyond : (at line size count a n j : ℕ) → j ≡ first_past at line size a → count ≤ j → false ≡ lines_meet at line size count a n
line_beyond at line size count a n j e h = rw (by_first, ← e, le-ltb j count h)

pub line_decides : (at line size count a n j : ℕ) (r : Bool) → j ≡ first_past at line size a → j < count → r ≡ meet (at + j * line) size a n → r ≡ lines_meet at line size count a n
line_decides at line size count a n j r e h p = rw (by_first, ← e, lt-ltb j count h) p

-- ---- lines against one run, and against as many lines of the same kind that start no lower
module _ (at line size count : ℕ) where
  pub with_run : (a n : ℕ) → share_byte (record { at = at; line = line; size = size; count = count }) (record { at = a; line = 0; size = n; count = 1 }) ≡ lines_meet at line size count a n
  unfolding share_byte lines_meet any_of
  with_run a n = simp add-zero

  pub with_block : (d : ℕ) → at ≤ d
      → share_byte (record { at = at; line = line; size = size; count = count }) (record { at = d; line = line; size = size; count = count }) ≡ lines_meet at line size count d size
  unfolding share_byte lines_meet
  with_block d h = same_truth _ (any_of count (λ j. meet (at + j * line) size d size)) moved still
    where
      -- line j of the one meets line k of the other: both go up until one of them is a first line
      up : (j k : ℕ) → j < count → Meets (at + j * line) size (d + k * line) size → any_of count (λ i. meet (at + i * line) size d size) ≡ true
      up j k l m = ⊎_elim above below (below_or_not j k)
        where
          above : j < k → any_of count (λ i. meet (at + i * line) size d size) ≡ true
          above g =
              let q = mul-le-mul_right line (le_of_lt g) in
              any_holds count _ 0 (omega arith)
              (meets_true (at + 0 * line) size d size (rw zero-mul (record { some = m.some; any = m.any; before = omega arith; after = omega arith })))

          below : k ≤ j → any_of count (λ i. meet (at + i * line) size d size) ≡ true
          below g =
              let q : (j - k) * line + k * line ≡ j * line = sym (add-mul (j - k) k line) ∙ ap (λ (n : ℕ). n * line) (sub-add_cancel g) in
              any_holds count _ (j - k) (omega arith)
              (meets_true (at + (j - k) * line) size d size (record { some = m.some; any = m.any; before = omega arith; after = omega arith }))

      moved : any_of count (λ j. any_of count (λ k. meet (at + j * line) size (d + k * line) size)) ≡ true → any_of count (λ j. meet (at + j * line) size d size) ≡ true
      moved e =
          let j = any_found count _ e in
          let k = any_found count _ j.passes in
          up j.k k.k j.below (meet_true (at + j.k * line) size (d + k.k * line) size k.passes)

      still : any_of count (λ j. meet (at + j * line) size d size) ≡ true → any_of count (λ j. any_of count (λ k. meet (at + j * line) size (d + k * line) size)) ≡ true
      still e =
          let w = any_found count _ e in
          let z : d + 0 * line ≡ d = rw (zero-mul, add-zero) in
          any_holds count _ w.k w.below
          (any_holds count _ 0 (omega arith) (rw z w.passes))
