-- Where a pixel of a dword stands: its byte, its highest bit, and what memory holds there.
use mathlib.Core.Path.{◌≡◌, refl, ap}
use mathlib.Core.Bool.{Bool, true, false, cond}
use mathlib.Core.List.{List}
use mathlib.Core.Logic.{⊎_elim}
use Prim.Native.Nat.{ℕ, ◌+◌, ◌-◌, ◌*◌, ◌/◌, ◌%◌, ◌^◌, ◌≤◌, ◌<◌, min, max}
use native.Mathlib.Omega.{arith}
use lib.Dec.{ltb}
use lib.ListN.{get_or}
use borrow.Author.Tests.{ltb-true, ltb-false}
use Rattle.pixel.specs.Depth.{is_depth, per_dword}
use Rattle.pixel.specs.Pixel.{get_pixel, pixel_byte, dword_pixel, pixel_bit, stored_pixel}
use Rattle.pixel.proofs.Depth.{depth, depth_pos, factor_le, in_dword, room}
use Rattle.pixel.proofs.Pixels.{get_one, get_lt}

-- as many bits stand to the right of the lowest bit as the place of the highest leaves
right : (d x : ℕ) (t : Bool) → x ≤ 7 → ltb d 8 ≡ t → 8 - (d + x) ≡ cond t (7 - x) 7 + 1 - d
right d x true h e = omega (arith, ltb-true d 8 e)
right d x false h e = omega (arith, ltb-false d 8 e)

-- the pixel is the bits of memory from there on
pub stored_pixel_lem : (d : ℕ) (m : List ℕ) (w i : ℕ) → dword_pixel d m w i ≡ stored_pixel d m (pixel_byte d w i) (pixel_bit d i)
unfolding dword_pixel pixel_bit stored_pixel
stored_pixel_lem d m w i =
    ap (λ (k : ℕ). get_pixel (max 1 (d / 8)) m (pixel_byte d w i) / 2 ^ k % 2 ^ d) (right d (i * d % 8) (ltb d 8) (omega arith) refl)

-- one formula for every depth: as many bits stand to its left as the pixels before it have
below_16 : (d e i : ℕ) (t : Bool) → e * d ≡ 8 → ltb d 8 ≡ t → cond t (7 - i * d % 8) 7 ≡ 7 - i * d % 8
below_16 d e i true h f = refl
below_16 d e i false h f =
    let eight : d ≡ 8 = omega (arith, ltb-false d 8 f, factor_le e d 7 h) in
    rw eight (omega arith)

pub bit_is : (d i : ℕ) → is_depth d ≡ true → pixel_bit d i ≡ 7 - i * d % 8
unfolding pixel_bit
bit_is d i h =
    ⊎_elim (λ e. rw e (omega arith)) (λ p. below_16 d p.0 i (ltb d 8) p.1 refl) (depth d h).narrow

-- the pixel has room from there down, at depth 16 its low byte
pub bit_room : (d i : ℕ) → is_depth d ≡ true → (pixel_bit d i ≤ 7) × (min d 8 ≤ pixel_bit d i + 1)
bit_room d i h =
    rw (bit_is d i h)
    (omega arith, ⊎_elim (λ e. rw e (omega arith)) (λ p. omega (arith, room i d p.0 p.1)) (depth d h).narrow)

-- its bytes are the dword's
pub byte_room : (d w i : ℕ) → is_depth d ≡ true → i < per_dword d → pixel_byte d w i + max 1 (d / 8) ≤ 4 * w + 4
byte_room d w i h below =
    let ends : i * d + d ≤ 32 = in_dword d i h below in
    ⊎_elim (λ e. omega (arith, ends)) (λ p. omega (arith, ends, depth_pos d h, factor_le p.0 d 7 p.1)) (depth d h).narrow

-- ---- what is read there
-- at depth 16 two whole bytes
pub stored_wide : (d a b r : ℕ) (m : List ℕ) → d ≡ 16 → b ≤ 7 → ((x : ℕ) → get_or m x 0 < 256) → r ≡ get_pixel 2 m a → r ≡ stored_pixel d m a b
unfolding stored_pixel
stored_wide d a b r m e h bytes f =
    let none : b + 1 - 16 ≡ 0 = omega arith in
    rw (e, none, f) (omega (arith, get_lt 2 m a bytes))

-- below it some bits of one byte
pub stored_narrow : (d a b : ℕ) (m : List ℕ) → d ≤ 8 → get_or m a 0 / 2 ^ (b + 1 - d) % 2 ^ d ≡ stored_pixel d m a b
unfolding stored_pixel
stored_narrow d a b m h =
    let one : max 1 (d / 8) ≡ 1 = omega arith in
    rw one (rw (get_one m a))
