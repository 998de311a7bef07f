-- Pixels side by side, in cells of whole bytes, are those that the steps come to.
use Prim.Native.Nat.{ℕ, zero, suc, ◌+◌, ◌-◌, ◌*◌, ◌/◌, ◌%◌, ◌≤◌, ◌<◌, min, max}
use mathlib.Core.Path.{◌≡◌, refl, sym, ap, ◌∙◌}
use mathlib.Core.List.{List}
use mathlib.Core.Logic.{⊎_elim}
use mathlib.Core.Bool.{Bool, true, false, cond}
use native.Mathlib.Nat.{div-add-mod, le-div_iff_mul-le, mod-lt, mod-one, mul_comm, mul-div_cancel, mul-le-mul_right, suc-mul}
use native.Mathlib.Omega.{arith}
use lib.Dec.{eqb}
use borrow.Author.Tests.{eqb-true}
use Rattle.record.specs.Lists.{tabulate}
use Rattle.record.proofs.Choice.{and_left, and_right}
use Rattle.record.proofs.Lists.{tabulate_below}
use Rattle.pixel.specs.Depth.{is_depth}
use Rattle.pixel.specs.Pixel.{stored_pixel}
use Rattle.pixel.proofs.Depth.{byte_depth, depth, depth_pos, factor_le, factor_pos, left}
use Rattle.view.specs.Steps.{bits_after}
use Rattle.view.specs.declared.Steps.{Steps}
use Rattle.reader.specs.Along.{step_colour, Fillable, cell_pixels, cell_bytes, cell_at, cell_colour, cells_colour, Celled, beside}

-- ---- a cell of a depth: as many bits as its bytes have, and none of its bytes is to spare
pub record Cell (d : ℕ) : Type 0 where
  pub bits : cell_pixels d * d ≡ 8 * cell_bytes d
  pub tight : 8 * cell_bytes d < 8 + d

-- as many pixels as a byte has, where they divide it
pixels_of : (d e : ℕ) → is_depth d ≡ true → e * d ≡ 8 → cell_pixels d ≡ e
pixels_of d e deep h =
    let pixels : 8 / d ≡ e = ap (λ (n : ℕ). n / d) (sym h) ∙ mul-div_cancel e (depth_pos d deep) in
    let some : 0 < e = factor_pos d e 7 (mul_comm d e ∙ h) in
    ap (max 1) pixels ∙ omega arith

pub cell : (d : ℕ) → is_depth d ≡ true → Cell d
cell d deep = ⊎_elim (λ e. rw e (record { bits = refl; tight = omega arith })) narrow (depth d deep).narrow
  where
    narrow : (e : ℕ) × (e * d ≡ 8) → Cell d
    narrow (e, h) =
        let small : d ≤ 8 = factor_le e d 7 h in
        let byte : cell_bytes d ≡ 1 = omega arith in
        record { bits = ap (λ (n : ℕ). n * d) (pixels_of d e deep h) ∙ h ∙ omega (arith, byte); tight = omega (arith, byte, depth_pos d deep) }

-- at depth 16 it is a pixel, else a byte
pub wide_cell : (d : ℕ) → d ≡ 16 → (1 ≡ cell_pixels d) × (2 ≡ cell_bytes d)
wide_cell d e = rw e (refl, refl)

pub byte_cell : (d : ℕ) → is_depth d ≡ true → (d ≡ 16 → ⊥) → (0 < d) × ((8 / d ≡ cell_pixels d) × (1 ≡ cell_bytes d))
byte_cell d deep h =
    let e = byte_depth d deep h in
    let small : d ≤ 8 = factor_le e.0 d 7 e.1 in
    let some : 0 < d = depth_pos d deep in
    let one : 1 ≤ 8 / d = (le-div_iff_mul-le some).1 (omega arith) in
    (some, (omega arith, omega arith))

-- pixels of whole bytes are whole cells
pub whole_cells : (d n : ℕ) → is_depth d ≡ true → n * d % 8 ≡ 0 → n % cell_pixels d ≡ 0
whole_cells d n deep h = ⊎_elim (λ e. rw e (mod-one n)) narrow (depth d deep).narrow
  where
    nothing : (x y : ℕ) → 0 < y → x * y ≡ 0 → x ≡ 0
    nothing zero y some e = refl
    nothing (suc x) y some e = absurd (omega (arith, suc-mul x y))

    narrow : (e : ℕ) × (e * d ≡ 8) → n % cell_pixels d ≡ 0
    narrow (e, g) = ap (λ (x : ℕ). n % x) (pixels_of d e deep g) ∙ nothing (n % e) d (depth_pos d deep) (sym (left n d e 7 g) ∙ h)

-- the t-th pixel is one of n, from either side
pub place_below : (back : Bool) (n t : ℕ) → t < n → cond back (n - 1 - t) t < n
place_below true n t h = omega arith
place_below false n t h = h

pub colour_of : (d : ℕ) (memory : List ℕ) (back : Bool) (a n t i r : ℕ) → n ≡ cell_pixels d → i ≡ cond back (n - 1 - t) t → r ≡ stored_pixel d memory a (7 - d * i)
    → r ≡ cell_colour d memory back a t
unfolding cell_colour
colour_of d memory back a n t i r e f g = rw (g, f, e) refl

-- and its bits are its byte's, at depth 16 two whole bytes
pub bit_in : (d i : ℕ) → is_depth d ≡ true → i < cell_pixels d → (d * i ≤ 7) × (min d 8 ≤ 7 - d * i + 1)
bit_in d i deep h =
    let c = cell d deep in
    let ends : d * i + d ≤ 8 * cell_bytes d = omega (arith, suc-mul i d, mul_comm d i, mul-le-mul_right d h, c.bits) in
    (omega (arith, ends, c.tight), omega (arith, ends, c.tight))

-- ---- the pixel j: so many cells on, and so many pixels in that cell
module _ (d : ℕ) (deep : is_depth d ≡ true) (j : ℕ) where
  abbrev p : ℕ
  p = cell_pixels d

  abbrev u : ℕ
  u = cell_bytes d

  cells_and_pixels : j * d ≡ 8 * (j / p * u) + d * (j % p)
  cells_and_pixels =
      omega (arith, ap (λ (x : ℕ). x * d) (div-add-mod j p), ap (λ (x : ℕ). x * (j / p)) (cell d deep).bits)

  below : j % p < p
  below = mod-lt j (omega arith)

  -- counted from the cell's other end
  from_right : d * (p - 1 - j % p) + d * (j % p) + d ≡ 8 * u
  from_right =
      let e : p - 1 - j % p + j % p + 1 ≡ p = omega (arith, below) in
      omega (arith, ap (λ (x : ℕ). d * x) e, (cell d deep).bits, mul_comm p d)

-- the bits before it: byte and bit, onward
onward : (a first cells pixels way bits : ℕ) → first ≡ 8 * a → way ≡ 8 * cells + pixels → pixels < 8 → bits ≡ first + way
    → (bits / 8 ≡ a + cells) × (bits % 8 ≡ pixels)
onward a first cells pixels way bits f w h e = (omega arith, omega arith)

-- and back
backward : (d a first cells pixels rest bytes way bits : ℕ) → first + d ≡ 8 * a + 8 * bytes → way ≡ 8 * cells + pixels → rest + pixels + d ≡ 8 * bytes → rest < 8
    → way ≤ first → bits ≡ first - way → (cells ≤ a) × ((bits / 8 ≡ a - cells) × (bits % 8 ≡ rest))
backward d a first cells pixels rest bytes way bits f w r h le e = (omega arith, (omega arith, omega arith))

-- ---- steps by pixels, over whole cells
module _ (d m : ℕ) (s : Steps) (n : ℕ) (f : Fillable d m s n) (b : beside d s n ≡ true) where
  abbrev first : ℕ
  first = bits_after s 0

  by_pixels : s.step ≡ d
  by_pixels = eqb-true s.step d (and_left _ _ b)

  whole : n % cell_pixels d ≡ 0
  whole = whole_cells d n f.deep (eqb-true (n * d % 8) 0 (and_left _ _ (and_right (eqb s.step d) _ b)))

  at_edge : first % 8 ≡ cond s.back (8 * cell_bytes d - d) 0
  at_edge = eqb-true (first % 8) _ (and_right (eqb (n * d % 8) 0) _ (and_right (eqb s.step d) _ b))

  -- byte and bit of pixel j
  module _ (j : ℕ) (h : j < n) where
    abbrev Found : Bool → ℕ → ℕ → Type 0
    Found t a bits =
        (cond t (j / cell_pixels d * cell_bytes d) 0 ≤ a)
        × ((bits / 8 ≡ cell_at d t a (j / cell_pixels d)) × (7 - bits % 8 ≡ 7 - d * cond t (cell_pixels d - 1 - j % cell_pixels d) (j % cell_pixels d)))

    found_by : (t : Bool) (ahead behind x : ℕ) → x ≡ d → behind ≤ ahead → cond t (behind + j * x) behind ≤ cond t ahead (ahead + j * x)
        → (cond t ahead (ahead + 0 * x) - cond t (behind + 0 * x) behind) % 8 ≡ cond t (8 * cell_bytes d - d) 0
        → Found t ((cond t ahead (ahead + 0 * x) - cond t (behind + 0 * x) behind) / 8) (cond t ahead (ahead + j * x) - cond t (behind + j * x) behind)
    found_by true ahead behind x e le order edge =
        let c = cell d f.deep in
        let way : j * x ≡ 8 * (j / cell_pixels d * cell_bytes d) + d * (j % cell_pixels d) = ap (λ (y : ℕ). j * y) e ∙ cells_and_pixels d f.deep j in
        let r = from_right d f.deep j in
        let t = backward d ((ahead - (behind + 0 * x)) / 8) (ahead - (behind + 0 * x)) _ _ _ (cell_bytes d) (j * x) (ahead - (behind + j * x))
        (omega (arith, edge, c.tight)) way r (omega (arith, r, c.tight)) (omega (arith, order)) (omega arith) in
        (t.0, (t.1.0, ap (λ (y : ℕ). 7 - y) t.1.1))
    found_by false ahead behind x e le order edge =
        let c = cell d f.deep in
        let way : j * x ≡ 8 * (j / cell_pixels d * cell_bytes d) + d * (j % cell_pixels d) = ap (λ (y : ℕ). j * y) e ∙ cells_and_pixels d f.deep j in
        let r = from_right d f.deep j in
        let t = onward ((ahead + 0 * x - behind) / 8) (ahead + 0 * x - behind) _ _ (j * x) (ahead + j * x - behind)
        (omega (arith, edge)) way (omega (arith, r, c.tight)) (omega (arith, le)) in
        (omega arith, (t.0, ap (λ (y : ℕ). 7 - y) t.1))

    found : Found s.back (first / 8) (bits_after s j)
    found = found_by s.back s.ahead s.behind s.step by_pixels f.start (f.order j h) at_edge

    colour_is : (memory : List ℕ) → cells_colour d memory s.back (first / 8) j ≡ step_colour d memory s j
    unfolding cell_colour
    colour_is memory = rw (found.1.0, found.1.1) refl

  -- the colours of the cells are those of the steps
  pub cells_colours : (memory : List ℕ) → tabulate n (cells_colour d memory s.back (first / 8)) ≡ tabulate n (step_colour d memory s)
  cells_colours memory = tabulate_below n _ _ (λ j h. colour_is j h memory)

  -- by the first pixel of cell i
  module _ (i : ℕ) (h : i < n / cell_pixels d) where
    first_in : i * cell_pixels d < n
    first_in =
        let some : 0 < cell_pixels d = omega arith in
        let more : suc i * cell_pixels d ≤ n = (le-div_iff_mul-le some).0 h in
        omega (arith, suc-mul i (cell_pixels d))

    which : i * cell_pixels d / cell_pixels d ≡ i
    which = mul-div_cancel i (omega arith)

    byte_in : cell_at d s.back (first / 8) i + cell_bytes d ≤ m
    byte_in = rw ((found (i * cell_pixels d) first_in).1.0, which) at (f.each (i * cell_pixels d) first_in).0

    far_by : (t : Bool) (a : ℕ) → cond t (i * cell_pixels d / cell_pixels d * cell_bytes d) 0 ≤ a → cell_at d t a i + cell_bytes d ≤ m → i * cell_bytes d ≤ cond t a m
    far_by true a lo hi = rw which at lo
    far_by false a lo hi = omega arith

    far : i * cell_bytes d ≤ cond s.back (first / 8) m
    far = far_by s.back (first / 8) (found (i * cell_pixels d) first_in).0 byte_in

  -- and the cells are in the memory
  pub celled : Celled d m s.back (first / 8) n
  celled = record { deep = f.deep; whole = whole; far = far; each = byte_in }
