-- What acceptance of a screen says: its numbers, and its images in whole dwords.
use Prim.Native.Nat.{ℕ, zero, suc, ◌+◌, ◌*◌, ◌/◌, ◌%◌, ◌<◌, ◌≤◌}
use mathlib.Core.Path.{◌≡◌, refl, ap}
use mathlib.Core.Bool.{Bool, true, false, not, ◌&&◌, ◌||◌, cond, and-eq-true_iff}
use native.Mathlib.Omega.{arith}
use native.Mathlib.Nat.{div-add-mod, div-le_self, mul-le-mul, le_of_mul-le-mul_left}
use lib.Dec.{leb, eqb}
use borrow.Author.Tests.{eqb-true, eq-eqb, leb-true, ltb-false, not-false}
use Rattle.record.specs.Checks.{first_of, AllPass}
use Rattle.record.proofs.Choice.{and_left, and_right}
use Rattle.record.proofs.Checks.{none}
use Rattle.pixel.specs.Depth.{is_depth, per_dword}
use Rattle.pixel.proofs.Depth.{full, pos_left, depth_le}
use Rattle.screen.specs.Image.{line_bytes, line_pixels, image_end}
use Rattle.screen.specs.Screen.{panel_ok, whole_dwords, main_image, window_image, line_ok, image_ok, window_ok, window_whole, field_rows}
use Rattle.screen.specs.declared.Image.{Image}
use Rattle.screen.specs.declared.Screen.{Screen}
use Rattle.screen.proofs.Read.{field_numbered}
use Rattle.screen.proofs.View.{view_sides}

-- ---- an image in whole dwords, k pixels of d bits to a dword: its base, its line length and its width are b, l and m of them. A shown
-- line fits in a line, and the line offset in its register.
pub record Aligned (k d : ℕ) (i : Image) : Type 0 where
  pub b : ℕ
  pub l : ℕ
  pub m : ℕ
  pub whole : k * d ≡ 32
  pub base_is : i.base ≡ 4 * b
  pub line_is : i.line ≡ 4 * l
  pub width_is : i.width ≡ k * m
  pub wide : 0 < m
  pub high : 0 < i.height
  pub room : m ≤ l
  pub short : l ≤ 1023

pub whole_is : (k n : ℕ) → n % k ≡ 0 → n ≡ k * (n / k)
whole_is k n h = omega (arith, div-add-mod n k)

some : (k n t : ℕ) → 0 < n → n ≡ k * t → 0 < t
some k n zero h e = omega arith
some k n (suc t) h e = omega arith

-- the bits of n dwords of pixels
pub bits_of : (k d n w : ℕ) → k * d ≡ 32 → w ≡ k * n → w * d ≡ 32 * n
bits_of k d n w kd e = omega (arith, ap (λ (x : ℕ). x * d) e, ap (λ (x : ℕ). x * n) kd)

-- n pixels to a line, for an image of so many shown: whole dwords, room for what is shown, and an offset that fits
pub record Lined (k d width n : ℕ) : Type 0 where
  pub whole : n % k ≡ 0
  pub room : width ≤ n
  pub short : line_bytes d n ≤ 4092

-- an image that passes the tests, of n pixels a line
aligned : (k d n : ℕ) (i : Image) → k * d ≡ 32 → i.base % 4 ≡ 0 → i.line ≡ line_bytes d n → Lined k d i.width n → i.width % k ≡ 0 → 0 < i.width → 0 < i.height → Aligned k d i
aligned k d n i kd hb hl o hw w h =
    let en = whole_is k n o.whole in
    let ew = whole_is k i.width hw in
    let bits = bits_of k d (n / k) n kd en in
    record {
      b = i.base / 4;
      l = n / k;
      m = i.width / k;
      whole = kd;
      base_is = omega arith;
      line_is = omega (arith, bits);
      width_is = ew;
      wide = some k i.width (i.width / k) w ew;
      high = h;
      room = le_of_mul-le-mul_left {k = k} (omega (arith, en, ew, o.room)) (pos_left k d kd);
      short = omega (arith, bits, o.short);
    }

-- ---- what each row says where it passes
pub panel_says : (w h : ℕ) → panel_ok w h ≡ true → (w % 8 ≡ 0) × (0 < w) × (w ≤ 1024) × (0 < h) × (h ≤ 1024)
unfolding panel_ok
panel_says w h e =
    let t = simp and-eq-true_iff at e in
    omega (arith, leb-true, eqb-true)

pub image_says : (m d : ℕ) (i : Image) → image_ok m d i ≡ true → (i.base % 4 ≡ 0) × (image_end d i ≤ m)
unfolding image_ok
image_says m d i e =
    let t = simp and-eq-true_iff at e in
    (eqb-true (i.base % 4) 0 t.0, leb-true (image_end d i) m t.1)

pub whole_says : (d n : ℕ) → whole_dwords d n ≡ true → n % per_dword d ≡ 0
unfolding whole_dwords
whole_says d n e = eqb-true (n % per_dword d) 0 e

-- the line length, as given or as shown, of an image of at most 1,024 shown pixels a line
module _ (d : ℕ) (ok : is_depth d ≡ true) (given width : ℕ) (narrow : width ≤ 1024) (shown : width % per_dword d ≡ 0) where
  lined_as_shown : Lined (per_dword d) d width width
  lined_as_shown =
      record { whole = shown; room = omega arith; short = omega (arith, mul-le-mul {n₂ = 1024} {m₂ = 16} narrow (depth_le d ok)) }

  lined_as_given : (leb width given && (whole_dwords d given && leb (line_bytes d given) (4 * 1023))) ≡ true → Lined (per_dword d) d width given
  lined_as_given e =
      let p = and_right (leb width given) _ e in
      record {
        whole = whole_says d given (and_left (whole_dwords d given) _ p);
        room = leb-true width given (and_left (leb width given) _ e);
        short = omega (arith, leb-true (line_bytes d given) (4 * 1023) (and_right (whole_dwords d given) _ p));
      }

  line_says : line_ok d given width ≡ true → Lined (per_dword d) d width (line_pixels given width)
  unfolding line_ok
  line_says e = chosen (eqb given 0) refl e
    where
      chosen : (t : Bool) → eqb given 0 ≡ t → (t || (leb width given && (whole_dwords d given && leb (line_bytes d given) (4 * 1023)))) ≡ true → Lined (per_dword d) d width (cond t width given)
      chosen true z g = lined_as_shown
      chosen false z g = lined_as_given g

window_says : (s : Screen) → window_ok s ≡ true → (0 < s.window.width) × (0 < s.window.height) × (s.window.x + s.window.width ≤ (main_image s).width) × (s.window.y + s.window.height ≤ (main_image s).height)
unfolding window_ok
window_says s e =
    let t = simp and-eq-true_iff at e in
    omega (arith, leb-true)

window_whole_says : (s : Screen) → window_whole s ≡ true → (s.window.x % per_dword s.depth ≡ 0) × (s.window.width % per_dword s.depth ≡ 0)
unfolding window_whole
window_whole_says s e =
    let t = simp and-eq-true_iff at e in
    (whole_says s.depth s.window.x t.0, whole_says s.depth s.window.width t.1)

-- a row of the window that passes with flag 1
asked : (f : ℕ) (b : Bool) → f ≡ 1 → (eqb f 1 && not b) ≡ false → b ≡ true
asked f b h e = not-false b (rw (eq-eqb f 1 h) at e)

-- ---- an accepted screen
pub record Accepted (m : ℕ) (s : Screen) : Type 0 where
  pub depth : is_depth s.depth ≡ true
  pub whole : per_dword s.depth * s.depth ≡ 32
  pub rotation : s.rotation < 4
  pub eights : s.width % 8 ≡ 0
  pub width : 0 < s.width
  pub narrow : s.width ≤ 1024
  pub height : 0 < s.height
  pub low : s.height ≤ 1024
  pub view : (main_image s).width % per_dword s.depth ≡ 0
  pub line : line_ok s.depth s.line (main_image s).width ≡ true
  pub base : (main_image s).base % 4 ≡ 0
  pub ends : image_end s.depth (main_image s) ≤ m

all_pass : (m : ℕ) (s : Screen) → first_of (field_rows m s) ≡ 0 → AllPass (field_rows m s)
all_pass m s = none (field_rows m s) (field_numbered m s)

pub accepted : (m : ℕ) (s : Screen) → first_of (field_rows m s) ≡ 0 → Accepted m s
unfolding field_rows AllPass
accepted m s e =
    let p = all_pass m s e in
    let depth = not-false (is_depth s.depth) p.0 in
    let panel = panel_says s.width s.height (not-false _ p.1.1.0) in
    let main = image_says m s.depth (main_image s) (not-false _ p.1.1.1.1.1.0) in
    record {
      depth = depth;
      whole = full s.depth depth;
      rotation = omega (arith, ltb-false 3 s.rotation p.1.0);
      eights = panel.0;
      width = panel.1;
      narrow = panel.2;
      height = panel.3;
      low = panel.4;
      view = whole_says s.depth (main_image s).width (not-false _ p.1.1.1.0);
      line = not-false _ p.1.1.1.1.0;
      base = main.0;
      ends = main.1;
    }

module _ (m : ℕ) (s : Screen) (a : Accepted m s) where
  -- the main image has pixels, and at most 1,024 each way
  pub main_sides : (0 < (main_image s).width) × (0 < (main_image s).height) × ((main_image s).width ≤ 1024) × ((main_image s).height ≤ 1024)
  unfolding main_image
  main_sides =
      view_sides (λ x y. (0 < x) × (0 < y) × (x ≤ 1024) × (y ≤ 1024)) s.rotation s.width s.height
      (a.width, a.height, a.narrow, a.low)
      (a.height, a.width, a.low, a.narrow)

  pub main_aligned : Aligned (per_dword s.depth) s.depth (main_image s)
  unfolding main_image
  main_aligned =
      aligned (per_dword s.depth) s.depth (line_pixels s.line (main_image s).width) (main_image s) a.whole a.base refl
      (line_says s.depth a.depth s.line (main_image s).width main_sides.2 a.view a.line)
      a.view main_sides.0 main_sides.1

-- ---- an accepted window: its place and width in the view, x and w of the view's v dwords
pub record WindowLimits (m : ℕ) (s : Screen) : Type 0 where
  pub x : ℕ
  pub w : ℕ
  pub v : ℕ
  pub x_is : s.window.x ≡ per_dword s.depth * x
  pub w_is : s.window.width ≡ per_dword s.depth * w
  pub v_is : (main_image s).width ≡ per_dword s.depth * v
  pub wide : 0 < w
  pub some : 0 < s.window.width
  pub high : 0 < s.window.height
  pub right : x + w ≤ v
  pub fits : s.window.x + s.window.width ≤ (main_image s).width
  pub bottom : s.window.y + s.window.height ≤ (main_image s).height
  pub span : v ≤ 1024
  pub lines : (main_image s).height ≤ 1024
  pub image : Aligned (per_dword s.depth) s.depth (window_image s)
  pub ends : image_end s.depth (window_image s) ≤ m

-- k * x and k * w reach no further than k * v
sum_le : (k x w v : ℕ) → 0 < k → k * x + k * w ≤ k * v → x + w ≤ v
sum_le k x w v h e =
    let g : k * (x + w) ≤ k * v = omega arith in
    le_of_mul-le-mul_left g h

window_aligned : (m : ℕ) (s : Screen) → Accepted m s → (window_image s).base % 4 ≡ 0 → line_ok s.depth s.window.line s.window.width ≡ true → s.window.width % per_dword s.depth ≡ 0 → 0 < s.window.width → 0 < s.window.height → s.window.width ≤ 1024 → Aligned (per_dword s.depth) s.depth (window_image s)
unfolding window_image
window_aligned m s a hb hl hw w h narrow =
    aligned (per_dword s.depth) s.depth (line_pixels s.window.line s.window.width) (window_image s) a.whole hb refl
    (line_says s.depth a.depth s.window.line s.window.width narrow hw hl)
    hw w h

pub window_limits : (m : ℕ) (s : Screen) → first_of (field_rows m s) ≡ 0 → s.flag ≡ 1 → WindowLimits m s
unfolding field_rows AllPass
window_limits m s e on =
    let a = accepted m s e in
    let k = per_dword s.depth in
    let p = (all_pass m s e).1.1.1.1.1.1 in
    let i = window_says s (asked s.flag (window_ok s) on p.0) in
    let h = window_whole_says s (asked s.flag (window_whole s) on p.1.0) in
    let g = image_says m s.depth (window_image s) (asked s.flag (image_ok m s.depth (window_image s)) on p.1.1.1.0) in
    let l = asked s.flag (line_ok s.depth s.window.line s.window.width) on p.1.1.0 in
    let ex = whole_is k s.window.x h.0 in
    let ew = whole_is k s.window.width h.1 in
    let ev = whole_is k (main_image s).width a.view in
    record {
      x = s.window.x / k;
      w = s.window.width / k;
      v = (main_image s).width / k;
      x_is = ex;
      w_is = ew;
      v_is = ev;
      wide = some k s.window.width (s.window.width / k) i.0 ew;
      some = i.0;
      high = i.1;
      right = sum_le k _ _ _ (pos_left k s.depth a.whole) (omega (arith, ex, ew, ev, i.2));
      fits = i.2;
      bottom = i.3;
      span = omega (arith, div-le_self (main_image s).width k, (main_sides m s a).2);
      lines = (main_sides m s a).3;
      image = window_aligned m s a g.0 l h.1 i.0 i.1 (omega (arith, i.2, (main_sides m s a).2));
      ends = g.1;
    }

-- the window's image has pixels, and at most 1,024 each way
pub window_sides : (m : ℕ) (s : Screen) → first_of (field_rows m s) ≡ 0 → s.flag ≡ 1 → (0 < (window_image s).width) × (0 < (window_image s).height) × ((window_image s).width ≤ 1024) × ((window_image s).height ≤ 1024)
unfolding window_image
window_sides m s e on =
    let w = window_limits m s e on in
    let i = main_sides m s (accepted m s e) in
    (w.some, w.high, omega arith, omega arith)
