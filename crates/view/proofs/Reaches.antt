-- The walk from an image's start and line offset comes to the pixel that the rotation names.
use Prim.Native.Nat.{ℕ, zero, suc, ◌+◌, ◌-◌, ◌*◌, ◌<◌, ◌≤◌}
use mathlib.Core.Path.{◌≡◌, ap, ◌∙◌}
use mathlib.Core.Bool.{Bool, true, false, ◌&&◌, cond}
use native.Mathlib.Omega.{arith}
use native.Mathlib.Nat.{mod-lt, mul_comm, mul-le-mul_left, mul-le-mul_right}
use lib.Dec.{eqb}
use Rattle.pixel.specs.Depth.{per_dword}
use Rattle.pixel.proofs.Depth.{factor_pos, pos_left, per_dword_is, split, back, from_end}
use Rattle.screen.specs.Image.{image_end}
use Rattle.screen.specs.Screen.{view_width, view_height}
use Rattle.screen.specs.Values.{origin_of}
use Rattle.screen.specs.declared.Image.{Image}
use Rattle.screen.specs.declared.Origin.{Origin}
use Rattle.screen.specs.declared.ScreenValues.{ScreenValues}
use Rattle.screen.proofs.Accepted.{Aligned}
use Rattle.screen.proofs.Starts.{bits, offset, row, start0, start1, start2, start3, end_is}
use Rattle.view.specs.View.{Pixel, view_pixel, bit_address}
use Rattle.view.specs.Walk.{walk, in_window_by, place_of}
use Rattle.view.specs.Shows.{Shows}
use Rattle.view.specs.declared.Place.{Place}

-- the panel's sides that an image covers
abbrev pub panel_width : ℕ → Image → ℕ
panel_width r i = view_width r i.width i.height

abbrev pub panel_height : ℕ → Image → ℕ
panel_height r i = view_height r i.width i.height

-- the image's pixel at point (p, q) of the panel that it covers
abbrev pub pixel_of : ℕ → Image → ℕ → ℕ → Pixel
pixel_of r i p q = view_pixel r (panel_width r i) (panel_height r i) p q

-- an image in whole dwords
module _ (k d : ℕ) (i : Image) (a : Aligned k d i) where
  -- the walk's dwords and pixels have as many bits as come before the image's pixel
  abbrev pub Reaches : ℕ → ℕ → ℕ → Type 0
  Reaches r p q =
      let w = walk r k (origin_of r d i) p q in
      32 * w.up + d * w.pixel ≡ 32 * w.down + bit_address d i (pixel_of r i p q)

  -- v lines down, of l dwords
  lines : (v : ℕ) → v * i.line ≡ 4 * (v * a.l)
  lines v = omega (arith, ap (λ (x : ℕ). v * x) a.line_is)

  -- v + 1 lines up from the last
  lines_up : (v : ℕ) → v < i.height → (i.height - 1) * a.l ≡ (i.height - 1 - v) * a.l + v * a.l
  lines_up v h =
      let e : i.height - 1 ≡ i.height - 1 - v + v = omega arith in
      omega (arith, ap (λ (x : ℕ). x * a.l) e)

  -- n + 1 pixels back from the end of a line
  pixels_back : (n : ℕ) → n < i.width → (i.width - 1 - n) * d + n * d + d ≡ 32 * a.m
  pixels_back n h = rw a.width_is (from_end k d a.whole a.m n (omega (arith, a.width_is)))

  -- n lines of the line offset
  offsets : (n : ℕ) → n * (origin_of 0 d i).offset ≡ n * a.l
  unfolding origin_of
  offsets n = ap (λ (x : ℕ). n * x) (offset k d i a)

  reach0 : (p q : ℕ) → Reaches 0 p q
  unfolding walk origin_of view_pixel bit_address view_width view_height offsets
  reach0 p q = omega (arith, start0 k d i a, a.base_is, lines q, split k d a.whole p, offsets q)

  reach1 : (p q : ℕ) → q < i.width → Reaches 1 p q
  unfolding walk origin_of view_pixel bit_address view_width view_height offsets
  reach1 p q h =
      omega (arith, start1 k d i a, a.base_is, lines p, split k d a.whole q, back k d a.whole q, pixels_back q h, offsets p)

  reach2 : (p q : ℕ) → p < i.width → q < i.height → Reaches 2 p q
  unfolding walk origin_of view_pixel bit_address view_width view_height offsets
  reach2 p q h g =
      omega
      (arith, start2 k d i a, a.base_is, lines (i.height - 1 - q), lines_up q g, split k d a.whole p, back k d a.whole p, pixels_back p h, offsets q)

  reach3 : (p q : ℕ) → p < i.height → Reaches 3 p q
  unfolding walk origin_of view_pixel bit_address view_width view_height offsets
  reach3 p q h =
      omega (arith, start3 k d i a, a.base_is, lines (i.height - 1 - p), lines_up p h, split k d a.whole q, offsets p)

  pub reaches : (r p q : ℕ) → r < 4 → p < panel_width r i → q < panel_height r i → Reaches r p q
  unfolding view_width view_height
  reaches zero p q h pw qh = reach0 p q
  reaches (suc zero) p q h pw qh = reach1 p q qh
  reaches (suc (suc zero)) p q h pw qh = reach2 p q pw qh
  reaches (suc (suc (suc zero))) p q h pw qh = reach3 p q pw
  reaches (suc (suc (suc (suc r)))) p q h pw qh = absurd (omega arith)

-- the pixel that the walk comes to is one of its dword's k
pub low_pixel : (r k : ℕ) (o : Origin) (p q : ℕ) → 0 < k → r < 4 → (walk r k o p q).pixel < k
unfolding walk
low_pixel zero k o p q pos h = mod-lt p pos
low_pixel (suc zero) k o p q pos h = omega (arith, mod-lt q pos)
low_pixel (suc (suc zero)) k o p q pos h = omega (arith, mod-lt p pos)
low_pixel (suc (suc (suc zero))) k o p q pos h = mod-lt q pos
low_pixel (suc (suc (suc (suc r)))) k o p q pos h = absurd (omega arith)

-- so wherever the chip looks, it looks at one of a dword's pixels
pub low_place : (depth r flag : ℕ) (v : ScreenValues) (p q : ℕ) → 0 < per_dword depth → r < 4 → (place_of depth r flag v p q).pixel < per_dword depth
unfolding place_of
low_place depth r flag v p q pos h =
    either (eqb flag 1 && in_window_by r (per_dword depth) v.x v.y p q) _ _
    (low_pixel r (per_dword depth) v.window _ _ pos h) (low_pixel r (per_dword depth) v.main p q pos h)
  where
    either : (t : Bool) (x y : Place) → x.pixel < per_dword depth → y.pixel < per_dword depth → (cond t x y).pixel < per_dword depth
    either true x y a b = a
    either false x y a b = b

-- the image's pixel at a point of the panel that it covers is one of the image's
pub pixel_in : (r : ℕ) (i : Image) (p q : ℕ) → r < 4 → p < panel_width r i → q < panel_height r i → ((pixel_of r i p q).u < i.width) × ((pixel_of r i p q).v < i.height)
unfolding view_pixel view_width view_height
pixel_in zero i p q h pw qh = (pw, qh)
pixel_in (suc zero) i p q h pw qh = omega arith
pixel_in (suc (suc zero)) i p q h pw qh = omega arith
pixel_in (suc (suc (suc zero))) i p q h pw qh = omega arith
pixel_in (suc (suc (suc (suc r)))) i p q h pw qh = absurd (omega arith)

module _ (k d : ℕ) (i : Image) (a : Aligned k d i) where
  -- the bits of a pixel of the image are before the image's end
  pub bits_in : (x : Pixel) → x.u < i.width → x.v < i.height → bit_address d i x + d ≤ 8 * image_end d i
  unfolding bit_address image_end
  bits_in x hu hv =
      let f : x.v ≤ i.height - 1 = omega arith in
      omega (arith, row k d i a, bits k d i a, mul-le-mul_right d hu, mul-le-mul_right i.line f)

-- what the equation says of the dword, and of the pixel in it
module _ (m k d : ℕ) (kd : k * d ≡ 32) (w : Place) (bit end : ℕ) (low : w.pixel < k) (e : 32 * w.up + d * w.pixel ≡ 32 * w.down + bit) (inside : bit + d ≤ 32 * end) (fits : 4 * end ≤ m) where
  small : d * w.pixel + d ≤ 32
  small = omega (arith, mul-le-mul_left d low)

  deep : 0 < d
  deep = factor_pos k d 31 kd

  pub shows_of : Shows m d w bit
  shows_of =
      record {
        above = omega (arith, small, deep);
        dword = omega (arith, small, deep);
        pixel = rw (per_dword_is k d kd) low;
        lane = mul_comm w.pixel d ∙ omega (arith, small, deep);
        inside = omega (arith, small, deep);
      }

-- the walk over an image in a memory of m bytes
module _ (m k d : ℕ) (i : Image) (a : Aligned k d i) (fits : image_end d i ≤ m) where
  pub image_shows : (r p q : ℕ) → r < 4 → p < panel_width r i → q < panel_height r i → Shows m d (walk r k (origin_of r d i) p q) (bit_address d i (pixel_of r i p q))
  image_shows r p q h pw qh =
      let v = pixel_in r i p q h pw qh in
      shows_of m k d a.whole (walk r k (origin_of r d i) p q) (bit_address d i (pixel_of r i p q)) (a.b + (i.height - 1) * a.l + a.m)
      (low_pixel r k (origin_of r d i) p q (pos_left k d a.whole) h)
      (reaches k d i a r p q h pw qh)
      (omega (arith, bits_in k d i a (pixel_of r i p q) v.0 v.1, end_is k d i a))
      (omega (arith, end_is k d i a))
