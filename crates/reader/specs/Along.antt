-- Reading along a panel line, for inner contracts alone: points of neighbouring columns, by what the chip looks at and by steps. No promise of an entry
-- point cites it.
use Rattle.std.specs.Prelude.{ℕ, zero, suc, ◌+◌, ◌-◌, ◌*◌, ◌/◌, ◌%◌, ◌≤◌, ◌<◌, min, max, ◌≡◌, List, Bool, true, ◌&&◌, cond, leb, ltb, eqb}
use Rattle.record.specs.Lists.{tabulate}
use Rattle.pixel.specs.Depth.{is_depth}
use Rattle.pixel.specs.Pixel.{stored_pixel}
use Rattle.screen.specs.Fields.{values_fit}
use Rattle.screen.specs.declared.ScreenValues.{ScreenValues}
use Rattle.view.specs.Steps.{is_windows, ahead_after, behind_after, bits_after}
use Rattle.view.specs.declared.Steps.{Steps}
use Rattle.reader.specs.Read.{looked_at, dword_inside, colour_at}
use Rattle.reader.specs.declared.Display.{Display}

-- depth, rotation and the six values have passed their checks
pub record Walkable (d : Display) (values : ScreenValues) : Type 0 where
  pub depth : is_depth d.depth ≡ true
  pub rotation : d.rotation < 4
  pub fit : values_fit values ≡ true

-- n columns from column a on lie all in the window, or all outside it
abbrev pub OneSide : Display → ScreenValues → ℕ → ℕ → ℕ → Type 0
OneSide d values q a n =
    (j : ℕ) → j < n → is_windows d.depth d.rotation d.flag values (a + j) q ≡ is_windows d.depth d.rotation d.flag values a q

-- the dwords that the chip looks at for n columns from column a on are all in a memory of m bytes
unfoldable pub all_inside : ℕ → Display → ScreenValues → ℕ → ℕ → ℕ → Bool
all_inside m d values q a zero = true
all_inside m d values q a (suc n) = dword_inside m (looked_at d values a q) && all_inside m d values q (suc a) n

-- their colours
unfoldable pub colours_from : Display → ScreenValues → ℕ → List ℕ → ℕ → ℕ → List ℕ
colours_from d values q memory a n = tabulate n (λ j. colour_at d.depth memory (looked_at d values (a + j) q))

-- the dword after j steps is one of a memory of m bytes
abbrev pub step_inside : ℕ → Steps → ℕ → Bool
step_inside m s j = leb (behind_after s j) (ahead_after s j) && ltb (bits_after s j / 32) (m / 4)

-- the colour of the pixel there
abbrev pub step_colour : ℕ → List ℕ → Steps → ℕ → ℕ
step_colour depth memory s j = stored_pixel depth memory (bits_after s j / 8) (7 - bits_after s j % 8)

-- no sum of steps along a line passes 64 bits
pub record Near (s : Steps) : Type 0 where
  pub ahead : s.ahead ≤ 281474976710656
  pub behind : s.behind ≤ 281474976710656
  pub step : s.step ≤ 32768

-- the pixel with so many bits before it lies in a memory of m bytes, below depth 8 in one byte
abbrev pub Readable : ℕ → ℕ → ℕ → Type 0
Readable depth m bits = (bits / 8 + max 1 (depth / 8) ≤ m) × (min depth 8 ≤ 7 - bits % 8 + 1)

-- n pixels, each a step from the one before it, can be read
pub record Fillable (depth m : ℕ) (s : Steps) (n : ℕ) : Type 0 where
  pub deep : is_depth depth ≡ true
  pub near : Near s
  pub start : s.behind ≤ s.ahead
  pub count : n ≤ 4294967296
  pub order : (j : ℕ) → j < n → behind_after s j ≤ ahead_after s j
  pub each : (j : ℕ) → j < n → Readable depth m (bits_after s j)

-- ---- pixels side by side, as at 0 and 180 degrees, in cells of whole bytes
-- the pixels of a cell, a byte's and at depth 16 one; and its bytes
abbrev pub cell_pixels : ℕ → ℕ
cell_pixels depth = max 1 (8 / depth)

abbrev pub cell_bytes : ℕ → ℕ
cell_bytes depth = max 1 (depth / 8)

-- the address of the i-th cell from address a on, or back
abbrev pub cell_at : ℕ → Bool → ℕ → ℕ → ℕ
cell_at depth back a i = cond back (a - i * cell_bytes depth) (a + i * cell_bytes depth)

-- the t-th colour of the cell at address a: from its left, or back from its right
unfoldable pub cell_colour : ℕ → List ℕ → Bool → ℕ → ℕ → ℕ
cell_colour depth memory back a t = stored_pixel depth memory a (7 - depth * cond back (cell_pixels depth - 1 - t) t)

-- the j-th colour of cells side by side
abbrev pub cells_colour : ℕ → List ℕ → Bool → ℕ → ℕ → ℕ
cells_colour depth memory back a j = cell_colour depth memory back (cell_at depth back a (j / cell_pixels depth)) (j % cell_pixels depth)

-- n pixels in whole cells, from the cell at address a on or back, lie in a memory of m bytes
pub record Celled (depth m : ℕ) (back : Bool) (a n : ℕ) : Type 0 where
  pub deep : is_depth depth ≡ true
  pub whole : n % cell_pixels depth ≡ 0
  pub far : (i : ℕ) → i < n / cell_pixels depth → i * cell_bytes depth ≤ cond back a m
  pub each : (i : ℕ) → i < n / cell_pixels depth → cell_at depth back a i + cell_bytes depth ≤ m

-- the steps go by pixels, from the first of a cell, or back from the last, over n pixels of whole bytes
abbrev pub beside : ℕ → Steps → ℕ → Bool
beside depth s n =
    eqb s.step depth
    && (eqb (n * depth % 8) 0 && eqb (bits_after s 0 % 8) (cond s.back (8 * cell_bytes depth - depth) 0))
