-- Reading along a panel line by steps: what the chip looks at, column by column.
use Prim.Native.Nat.{ℕ, suc, ◌+◌, ◌-◌, ◌*◌, ◌/◌, ◌%◌, ◌≤◌, ◌<◌}
use mathlib.Core.Path.{◌≡◌, refl, sym, ◌∙◌}
use mathlib.Core.List.{List}
use mathlib.Core.Bool.{Bool, true, false, ◌&&◌, cond}
use native.Mathlib.Omega.{arith}
use native.Mathlib.Nat.{mul_comm, mul-le-mul_right}
use lib.Dec.{leb, ltb}
use borrow.Author.Tests.{leb-true, ltb-true, le-leb, lt-leb, lt-ltb, le-ltb}
use Rattle.record.specs.Lists.{tabulate}
use Rattle.record.proofs.Choice.{and_left, and_right}
use Rattle.record.proofs.Lists.{tabulate_below}
use Rattle.pixel.specs.Depth.{is_depth, per_dword}
use Rattle.pixel.specs.Pixel.{pixel_byte, pixel_bit}
use Rattle.pixel.proofs.Depth.{depth_pos, in_dword, per_dword_pos}
use Rattle.pixel.proofs.Stands.{stored_pixel_lem, bit_is, bit_room, byte_room}
use Rattle.screen.specs.declared.ScreenValues.{ScreenValues}
use Rattle.view.specs.Steps.{is_windows, window_columns, steps_from, ahead_after, behind_after, bits_after}
use Rattle.view.specs.declared.Columns.{Columns}
use Rattle.view.specs.declared.Place.{Place}
use Rattle.view.specs.declared.Steps.{Steps}
use Rattle.view.proofs.Reaches.{low_place}
use Rattle.view.proofs.Stepping.{columns_in, windows_between, steps_come, steps_bound}
use Rattle.view.proofs.Window.{same_orders, same_test}
use Rattle.reader.specs.Read.{looked_at, dword_inside}
use Rattle.reader.specs.Along.{Walkable, OneSide, all_inside, colours_from, step_inside, step_colour, Near, Readable, Fillable}
use Rattle.reader.specs.declared.Display.{Display}
use Rattle.reader.proofs.Line.{inside_each, all_inside_lem}

-- bits ahead of a number, by less than so many dwords
abbrev reached : ℕ → ℕ → ℕ → Bool
reached m behind ahead = leb behind ahead && ltb ((ahead - behind) / 32) (m / 4)

-- ---- a place, and as many bits ahead and behind
module _ (depth : ℕ) (deep : is_depth depth ≡ true) (w : Place) (low : w.pixel < per_dword depth) (ahead behind : ℕ) (e : ahead + 32 * w.down ≡ behind + (32 * w.up + depth * w.pixel)) where
  -- its pixel lies in its dword
  room : w.pixel * depth + depth ≤ 32
  room = in_dword depth w.pixel deep low

  small : depth * w.pixel < 32
  small = omega (arith, room, mul_comm depth w.pixel, depth_pos depth deep)

  same_inside : (m : ℕ) → reached m behind ahead ≡ dword_inside m w
  same_inside m =
      same_orders behind ahead (suc ((ahead - behind) / 32)) (m / 4) w.down w.up (suc (w.up - w.down)) (m / 4)
      (λ t. omega (arith, e, small, t.0, t.1)) (λ t. omega (arith, e, small, t.0, t.1))

  -- the bits before the pixel name its byte and its highest bit
  same_byte : w.down ≤ w.up → (ahead - behind) / 8 ≡ pixel_byte depth (w.up - w.down) w.pixel
  same_byte h = omega (arith, e, small, mul_comm depth w.pixel)

  same_bit : w.down ≤ w.up → 7 - (ahead - behind) % 8 ≡ pixel_bit depth w.pixel
  same_bit h = omega (arith, e, small, mul_comm depth w.pixel) ∙ sym (bit_is depth w.pixel deep)

-- ---- steps alone: between two that are inside all are
says : (m b a : ℕ) → reached m b a ≡ true → (b ≤ a) × ((a - b) / 32 < m / 4)
says m b a e =
    (leb-true b a (and_left (leb b a) (ltb ((a - b) / 32) (m / 4)) e), ltb-true ((a - b) / 32) (m / 4) (and_right (leb b a) (ltb ((a - b) / 32) (m / 4)) e))

passes : (m b a : ℕ) → b ≤ a → (a - b) / 32 < m / 4 → reached m b a ≡ true
passes m b a f g = rw (le-leb b a f, lt-ltb ((a - b) / 32) (m / 4) g) refl

between_ends : (m : ℕ) (s : Steps) (n j : ℕ) → j < n → step_inside m s 0 ≡ true → step_inside m s (n - 1) ≡ true → step_inside m s j ≡ true
between_ends m s n j h = by s.back s.behind s.ahead s.step
  where
    by : (t : Bool) (b a x : ℕ) → reached m (cond t (b + 0 * x) b) (cond t a (a + 0 * x)) ≡ true
        → reached m (cond t (b + (n - 1) * x) b) (cond t a (a + (n - 1) * x)) ≡ true
        → reached m (cond t (b + j * x) b) (cond t a (a + j * x)) ≡ true
    by true b a x first last =
        let u = says m (b + 0 * x) a first in
        let w = says m (b + (n - 1) * x) a last in
        let no-further : j * x ≤ (n - 1) * x = mul-le-mul_right x (omega arith) in
        passes m (b + j * x) a (omega (arith, w.0, no-further)) (omega (arith, u.1, no-further))
    by false b a x first last =
        let u = says m b (a + 0 * x) first in
        let w = says m b (a + (n - 1) * x) last in
        let no-further : j * x ≤ (n - 1) * x = mul-le-mul_right x (omega arith) in
        passes m b (a + j * x) (omega (arith, u.0)) (omega (arith, w.1, no-further))

-- ---- along n columns from column a on, on one side of the window's edges
module _ (d : Display) (v : ScreenValues) (q a n : ℕ) (walk : Walkable d v) (one : OneSide d v q a n) (s : Steps) (is : s ≡ steps_from d.depth d.rotation d.flag v a q) where
  abbrev at : ℕ → Place
  at j = looked_at d v (a + j) q

  low : (j : ℕ) → (at j).pixel < per_dword d.depth
  low j = low_place d.depth d.rotation d.flag v (a + j) q (per_dword_pos d.depth walk.depth) walk.rotation

  comes : (j : ℕ) → j < n → ahead_after s j + 32 * (at j).down ≡ behind_after s j + (32 * (at j).up + d.depth * (at j).pixel)
  comes j h = rw is (steps_come d.depth d.rotation d.flag v a q j walk.depth walk.rotation (one j h))

  -- a step is inside exactly where the dword is
  step_inside_lem : (m j : ℕ) → j < n → step_inside m s j ≡ dword_inside m (at j)
  step_inside_lem m j h = same_inside d.depth walk.depth (at j) (low j) (ahead_after s j) (behind_after s j) (comes j h) m

  -- so the first and the last decide for all
  pub ends_inside : (m : ℕ) → 0 < n → (step_inside m s 0 && step_inside m s (n - 1)) ≡ all_inside m d v q a n
  ends_inside m some =
      same_test _ _
      (λ e.
      let first = and_left (step_inside m s 0) (step_inside m s (n - 1)) e in
      let last = and_right (step_inside m s 0) (step_inside m s (n - 1)) e in
      all_inside_lem m d v q a n (λ j h. sym (step_inside_lem m j h) ∙ between_ends m s n j h first last))
      (λ e.
      let first = step_inside_lem m 0 some ∙ inside_each m d v q a n e 0 some in
      let end : n - 1 < n = omega arith in
      let last = step_inside_lem m (n - 1) end ∙ inside_each m d v q a n e (n - 1) end in
      rw (first, last) refl)

  -- where all are inside
  module _ (m : ℕ) (all : all_inside m d v q a n ≡ true) where
    in_order : (j : ℕ) → j < n → (at j).down ≤ (at j).up
    in_order j h = leb-true (at j).down (at j).up (and_left (leb (at j).down (at j).up) (ltb ((at j).up - (at j).down) (m / 4)) (inside_each m d v q a n all j h))

    dword_in : (j : ℕ) → j < n → (at j).up - (at j).down < m / 4
    dword_in j h = ltb-true ((at j).up - (at j).down) (m / 4) (and_right (leb (at j).down (at j).up) (ltb ((at j).up - (at j).down) (m / 4)) (inside_each m d v q a n all j h))

    byte_is : (j : ℕ) → j < n → bits_after s j / 8 ≡ pixel_byte d.depth ((at j).up - (at j).down) (at j).pixel
    byte_is j h = same_byte d.depth walk.depth (at j) (low j) (ahead_after s j) (behind_after s j) (comes j h) (in_order j h)

    bit_is_there : (j : ℕ) → j < n → 7 - bits_after s j % 8 ≡ pixel_bit d.depth (at j).pixel
    bit_is_there j h = same_bit d.depth walk.depth (at j) (low j) (ahead_after s j) (behind_after s j) (comes j h) (in_order j h)

    -- the memory has the pixel's bits
    step_room : (j : ℕ) → j < n → Readable d.depth m (bits_after s j)
    step_room j h =
        rw (byte_is j h, bit_is_there j h)
        (omega (arith, byte_room d.depth ((at j).up - (at j).down) (at j).pixel walk.depth (low j), dword_in j h), (bit_room d.depth (at j).pixel walk.depth).1)

    -- and they are the colour that the chip looks at
    pub step_colours : (memory : List ℕ) → tabulate n (step_colour d.depth memory s) ≡ colours_from d v q memory a n
    unfolding colours_from
    step_colours memory =
        tabulate_below n _ _
        (λ j h. rw (byte_is j h, bit_is_there j h) (sym (stored_pixel_lem d.depth memory ((at j).up - (at j).down) (at j).pixel)))

    ordered : (j : ℕ) → j < n → behind_after s j ≤ ahead_after s j
    ordered j h = (says m (behind_after s j) (ahead_after s j) (step_inside_lem m j h ∙ inside_each m d v q a n all j h)).0

    -- all of them can be read
    pub fillable : 0 < n → n ≤ 4294967296 → Near s → Fillable d.depth m s n
    fillable some few near =
        record { deep = walk.depth; near = near; start = first s.back _ _ _ (ordered 0 some); count = few; order = ordered; each = step_room }
      where
        first : (t : Bool) (b x y : ℕ) → cond t (b + 0 * x) b ≤ cond t y (y + 0 * x) → b ≤ y
        first true b x y h = omega arith
        first false b x y h = omega arith

-- no sum passes 64 bits
pub near : (d : Display) (v : ScreenValues) (p q : ℕ) (s : Steps) → Walkable d v → p < 4294967296 → q < 4294967296
    → s ≡ steps_from d.depth d.rotation d.flag v p q → Near s
near d v p q s walk hp hq is =
    let t = steps_bound d.depth d.rotation d.flag v p q walk.depth walk.rotation walk.fit hp hq in
    rw is (record { ahead = t.0; behind = t.1.0; step = t.1.1 })

-- ---- the three parts of a line: left of the window's columns, among them, and right of them
module _ (d : Display) (v : ScreenValues) (q : ℕ) (deep : is_depth d.depth ≡ true) (c : Columns) (is : c ≡ window_columns d.depth d.rotation d.flag v d.width q) where
  pub in_panel : (c.from ≤ c.to) × (c.to ≤ d.width)
  in_panel = rw is (columns_in d.depth d.rotation d.flag v d.width q)

  side : (p : ℕ) → p < d.width → is_windows d.depth d.rotation d.flag v p q ≡ (leb c.from p && ltb p c.to)
  side p h = rw is (windows_between d.depth d.rotation d.flag v d.width q p deep h)

  -- columns of the panel that lie all on the same side of both edges
  by_side : (a n : ℕ) (t : Bool) → a + n ≤ d.width → ((p : ℕ) → a ≤ p → p < a + n → (leb c.from p && ltb p c.to) ≡ t) → OneSide d v q a n
  by_side a n t h f j g =
      side (a + j) (omega arith) ∙ f (a + j) (omega arith) (omega arith) ∙ sym (side a (omega arith) ∙ f a (omega arith) (omega arith))

  pub one_left : OneSide d v q 0 (c.from - 0)
  one_left = by_side 0 (c.from - 0) false (omega (arith, in_panel)) (λ p h g. rw (lt-leb c.from p (omega arith)) refl)

  pub one_middle : OneSide d v q c.from (c.to - c.from)
  one_middle = by_side c.from (c.to - c.from) true (omega (arith, in_panel)) (λ p h g. rw (le-leb c.from p h, lt-ltb p c.to (omega arith)) refl)

  pub one_right : OneSide d v q c.to (d.width - c.to)
  one_right =
      by_side c.to (d.width - c.to) false (omega (arith, in_panel)) (λ p h g. rw (le-leb c.from p (omega (arith, in_panel)), le-ltb p c.to h) refl)
