-- An image's pixel on the plain sheet and its bits in memory: byte, place of the highest bit, and colour, at every depth.
use mathlib.Core.Path.{◌≡◌, refl, sym, ap, ◌∙◌}
use mathlib.Core.Bool.{Bool, true, false, cond}
use mathlib.Core.List.{List}
use mathlib.Core.Logic.{⊎_elim}
use Prim.Native.Nat.{ℕ, ◌+◌, ◌-◌, ◌*◌, ◌/◌, ◌%◌, ◌^◌, ◌<◌}
use native.Mathlib.Omega.{arith}
use native.Mathlib.Nat.{mul-div_cancel, suc-mul, div-one, mod-eq_of_lt}
use native.Mathlib.Numerals.{add-one}
use lib.Dec.{ltb, eqb}
use lib.ListN.{get_or}
use borrow.Author.Tests.{eq-eqb, ne_eqb, eqb-true, ltb-false}
use Rattle.record.proofs.Choice.{yes, no}
use Rattle.pixel.specs.Depth.{is_depth}
use Rattle.pixel.specs.Pixel.{stored_pixel}
use Rattle.pixel.proofs.Depth.{depth, left, factor_pos, factor_le}
use Rattle.pixel.proofs.Pixels.{get_two}
use Rattle.pixel.proofs.Stands.{stored_wide, stored_narrow}
use Rattle.screen.specs.declared.Image.{Image}
use Rattle.view.specs.View.{Pixel, bit_address}
use Rattle.unit.specs.Sheet.{from_left, sheet_address, sheet_bit, sheet_pixel}

-- the byte of a pixel's bits
pub address_is : (d : ℕ) (i : Image) (x : Pixel) → sheet_address d i x ≡ bit_address d i x / 8
unfolding bit_address
address_is d i x = omega arith

-- the pixels of d bits to the left in a byte, by their bits
lefts : (d e u : ℕ) → e * d ≡ 8 → u % (8 / d) * d ≡ u * d % 8
lefts d e u h =
    let per : 8 / d ≡ e = ap (λ (n : ℕ). n / d) (sym h) ∙ mul-div_cancel e (factor_pos e d 7 h) in
    ap (λ (n : ℕ). u % n * d) per ∙ sym (left u d e 7 h)

-- ---- the place of the highest bit
narrow_place : (d e u : ℕ) → e * d ≡ 8 → (t : Bool) → ltb d 8 ≡ t → cond t (7 - u % (8 / d) * d) 7 ≡ 7 - u * d % 8
narrow_place d e u h true f = ap (λ (n : ℕ). 7 - n) (lefts d e u h)
narrow_place d e u h false f =
    let eight : d ≡ 8 = omega (arith, ltb-false d 8 f, factor_le e d 7 h) in
    rw eight (omega arith)

pub place_is : (d : ℕ) → is_depth d ≡ true → (i : Image) (x : Pixel) → sheet_bit d x ≡ 7 - bit_address d i x % 8
unfolding sheet_bit bit_address
place_is d deep i x =
    let within : x.u * d % 8 ≡ (8 * (i.base + x.v * i.line) + x.u * d) % 8 = omega arith in
    ⊎_elim (λ e. rw e (omega arith)) (λ p. narrow_place d p.0 x.u p.1 (ltb d 8) refl) (depth d deep).narrow
    ∙ ap (λ (n : ℕ). 7 - n) within

-- ---- the colour
-- from the left: pixel n of a byte has n pixels to its left
from_left_lem : (d e u b : ℕ) → e * d ≡ 8 → from_left d b (u % (8 / d)) ≡ b / 2 ^ (7 - u * d % 8 + 1 - d) % 2 ^ d
from_left_lem d e u b h =
    let shift : 8 - (u % (8 / d) + 1) * d ≡ 7 - u * d % 8 + 1 - d = rw add-one (omega (arith, suc-mul (u % (8 / d)) d, lefts d e u h)) in
    ap (λ (t : ℕ). b / 2 ^ t % 2 ^ d) shift

-- a whole byte
whole_byte : (u b : ℕ) → b < 256 → b ≡ b / 2 ^ (7 - u * 8 % 8 + 1 - 8) % 2 ^ 8
whole_byte u b h =
    let none : 0 ≡ 7 - u * 8 % 8 + 1 - 8 = omega arith in
    sym (mod-eq_of_lt h) ∙ ap (λ (t : ℕ). t % 256) (sym (div-one b)) ∙ ap (λ (t : ℕ). b / 2 ^ t % 256) none

module _ (m : List ℕ) (bytes : (a : ℕ) → get_or m a 0 < 256) where
  -- below depth 16
  narrow : (d e : ℕ) → e * d ≡ 8 → (a u : ℕ) (t : Bool) → eqb d 8 ≡ t
      → cond t (get_or m a 0) (from_left d (get_or m a 0) (u % (8 / d))) ≡ stored_pixel d m a (7 - u * d % 8)
  narrow d e h a u true q =
      rw (eqb-true d 8 q) (whole_byte u (get_or m a 0) (bytes a) ∙ stored_narrow 8 a (7 - u * 8 % 8) m (omega arith))
  narrow d e h a u false q = from_left_lem d e u (get_or m a 0) h ∙ stored_narrow d a (7 - u * d % 8) m (factor_le e d 7 h)

  -- the sheet's pixel is what is stored at its byte and place
  at_place : (d : ℕ) → is_depth d ≡ true → (i : Image) (x : Pixel) → sheet_pixel d i m x ≡ stored_pixel d m (sheet_address d i x) (7 - x.u * d % 8)
  unfolding sheet_pixel
  at_place d deep i x =
      let a = sheet_address d i x in
      ⊎_elim
      (λ q. sym (yes _ (eq-eqb d 16 q) (sym (stored_wide d a (7 - x.u * d % 8) _ m q (omega arith) bytes (sym (get_two m a))))))
      (λ p. sym (no _ (ne_eqb d 16 (λ q. omega (arith, factor_le p.0 d 7 p.1))) (sym (narrow d p.0 p.1 a x.u (eqb d 8) refl))))
      (depth d deep).narrow

  pub pixel_is : (d : ℕ) → is_depth d ≡ true → (i : Image) (x : Pixel) → sheet_pixel d i m x ≡ stored_pixel d m (bit_address d i x / 8) (7 - bit_address d i x % 8)
  unfolding bit_address
  pixel_is d deep i x =
      let within : 7 - x.u * d % 8 ≡ 7 - (8 * (i.base + x.v * i.line) + x.u * d) % 8 = omega arith in
      at_place d deep i x ∙ (λ t. stored_pixel d m (address_is d i x t) (within t))
