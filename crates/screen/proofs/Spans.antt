-- The window's position registers as spans: 01's table of edges in "near edge and count" form, at each rotation.
use Prim.Native.Nat.{ℕ, zero, suc, ◌+◌, ◌-◌, ◌*◌, ◌/◌, ◌%◌, ◌<◌, ◌≤◌}
use mathlib.Core.Path.{◌≡◌, refl, ap, ◌∙◌}
use mathlib.Core.Bool.{cond}
use native.Mathlib.Omega.{arith}
use native.Mathlib.Nat.{le-div_iff_mul-le, div-lt_iff_lt-mul, mul-div_cancel_left, mul-pos}
use Rattle.record.specs.Checks.{first_of}
use Rattle.pixel.specs.Depth.{per_dword}
use Rattle.pixel.proofs.Depth.{pos_left}
use Rattle.screen.specs.Image.{by_rotation}
use Rattle.screen.specs.Screen.{quarter, view_width, view_height, field_rows}
use Rattle.screen.specs.Values.{edges, window_x, window_y, values_of}
use Rattle.screen.specs.declared.Window.{Window}
use Rattle.screen.specs.declared.Screen.{Screen}
use Rattle.screen.proofs.Accepted.{accepted, WindowLimits, window_limits}
use Rattle.screen.proofs.Values.{x_value, y_value, main_width, main_height}

-- a position register that holds the pixels or lines from near on, count of them, in whole units: dwords of pixels, or lines
pub record Span (unit register near count : ℕ) : Type 0 where
  pub first : ℕ
  pub units : ℕ
  pub register_is : register ≡ edges first (first + units - 1)
  pub near_is : near ≡ unit * first
  pub count_is : count ≡ unit * units
  pub some : 0 < units
  pub fits : first + units ≤ 1024

-- ---- what a span says
module _ (unit register near count : ℕ) (s : Span unit register near count) where
  pub start_is : register % 1024 ≡ s.first
  start_is = omega (arith, s.register_is, s.some, s.fits)

  pub end_is : register / 65536 % 1024 + 1 ≡ s.first + s.units
  end_is = omega (arith, s.register_is, s.some, s.fits)

  -- start and end are in their fields
  pub start_fits : register % 65536 < 1024
  start_fits = omega (arith, s.register_is, s.some, s.fits)

  pub end_fits : register / 65536 < 1024
  end_fits = omega (arith, s.register_is, s.some, s.fits)

  -- the start's unit begins at the near edge
  pub near_edge : register % 1024 * unit ≡ near
  near_edge = ap (λ (x : ℕ). x * unit) start_is ∙ omega (arith, s.near_is)

  -- a point is between start and end exactly where it is one of the span's
  pub inside : 0 < unit → (t : ℕ) → (register % 1024 ≤ t / unit) × (t / unit ≤ register / 65536 % 1024) → (near ≤ t) × (t < near + count)
  inside h t e =
      let lo : s.first * unit ≤ t = (le-div_iff_mul-le h).0 (omega (arith, start_is)) in
      let hi : t < (s.first + s.units) * unit = (div-lt_iff_lt-mul h).0 (omega (arith, end_is)) in
      omega (arith, s.near_is, s.count_is)

  pub inside_back : 0 < unit → (t : ℕ) → (near ≤ t) × (t < near + count) → (register % 1024 ≤ t / unit) × (t / unit ≤ register / 65536 % 1024)
  inside_back h t e =
      let lo : s.first ≤ t / unit = (le-div_iff_mul-le h).1 (omega (arith, s.near_is)) in
      let hi : t / unit < s.first + s.units = (div-lt_iff_lt-mul h).1 (omega (arith, s.near_is, s.count_is)) in
      omega (arith, start_is, end_is)

-- ---- whole dwords, k pixels each
module _ (k : ℕ) (kpos : 0 < k) where
  first_dword : (a n : ℕ) → a ≡ k * n → a / k ≡ n
  first_dword a n e = rw e (mul-div_cancel_left n kpos)

  last_dword : (a n : ℕ) → 0 < n → a ≡ k * n → (a - 1) / k + 1 ≡ n
  last_dword a n h e =
      let lo : n - 1 ≤ (a - 1) / k = (le-div_iff_mul-le kpos).1 (low (n - 1) (omega arith)) in
      let hi : (a - 1) / k < n = (div-lt_iff_lt-mul kpos).1 (omega (arith, mul-pos kpos h)) in
      omega arith
    where
      low : (j : ℕ) → j + 1 ≡ n → j * k ≤ a - 1
      low j g = omega (arith, ap (λ (x : ℕ). k * x) g)

  -- counted from the side's near end
  along : (register x w c u : ℕ) → register ≡ edges (x / k) ((x + w - 1) / k) → x ≡ k * c → w ≡ k * u → 0 < u → c + u ≤ 1024 → Span k register x w
  along register x w c u e ex ew h g =
      record {
        first = c;
        units = u;
        register_is = omega (arith, first_dword x c ex, last_dword (x + w) (c + u) (omega arith) (omega arith));
        near_is = ex;
        count_is = ew;
        some = h;
        fits = g;
      }

  -- counted from the far end of a side of v dwords
  along_back : (register side x w c u v start end : ℕ) → register ≡ edges start end → start ≡ (side - x - w) / k → end + 1 + c ≡ v → side ≡ k * v → x ≡ k * c → w ≡ k * u → 0 < u → c + u ≤ v → v ≤ 1024 → Span k register (side - (x + w)) w
  along_back register side x w c u v start end e es ee eside ex ew h fits g =
      let n : v - (c + u) + (c + u) ≡ v = omega arith in
      let f : side - x - w ≡ k * (v - (c + u)) = omega (arith, ap (λ (t : ℕ). k * t) n) in
      record {
        first = v - (c + u);
        units = u;
        register_is = omega (arith, first_dword (side - x - w) (v - (c + u)) f);
        near_is = omega arith;
        count_is = ew;
        some = h;
        fits = omega arith;
      }

  -- 01's two ways to write the far end
  end_180 : (side x c u v : ℕ) → side ≡ k * v → x ≡ k * c → 0 < u → c + u ≤ v → (side - x - 1) / k + 1 + c ≡ v
  end_180 side x c u v es ex h g =
      let n : v - c + c ≡ v = omega arith in
      omega (arith, last_dword (side - x) (v - c) (omega arith) (omega (arith, ap (λ (t : ℕ). k * t) n)))

  end_90 : (side x c u v : ℕ) → side ≡ k * v → x ≡ k * c → 0 < u → c + u ≤ v → (side - x) / k - 1 + 1 + c ≡ v
  end_90 side x c u v es ex h g =
      let n : v - c + c ≡ v = omega arith in
      omega (arith, first_dword (side - x) (v - c) (omega (arith, ap (λ (t : ℕ). k * t) n)))

-- ---- lines
lines : (register y h : ℕ) → register ≡ edges y (y + h - 1) → 0 < h → y + h ≤ 1024 → Span 1 register y h
lines register y h e g f = record { first = y; units = h; register_is = e; near_is = omega arith; count_is = omega arith; some = g; fits = f }

lines_back : (register side y h : ℕ) → register ≡ edges (side - y - h) (side - y - 1) → 0 < h → y + h ≤ side → side ≤ 1024 → Span 1 register (side - (y + h)) h
lines_back register side y h e g f b =
    record { first = side - (y + h); units = h; register_is = omega arith; near_is = omega arith; count_is = omega arith; some = g; fits = omega arith }

-- ---- the window of an accepted screen
-- pixels to a unit of the X and of the Y register
abbrev pub unit_x : ℕ → ℕ → ℕ
unit_x r k = cond (quarter r) 1 k

abbrev pub unit_y : ℕ → ℕ → ℕ
unit_y r k = cond (quarter r) k 1

-- the window's near edges, from the panel's corner
abbrev pub near_x : ℕ → ℕ → Window → ℕ
near_x r W a = by_rotation r a.x a.y (W - (a.x + a.width)) (W - (a.y + a.height))

abbrev pub near_y : ℕ → ℕ → Window → ℕ
near_y r H a = by_rotation r a.y (H - (a.x + a.width)) (H - (a.y + a.height)) a.x

-- its pixels across and down the panel
abbrev pub count_x : ℕ → Window → ℕ
count_x r a = cond (quarter r) a.height a.width

abbrev pub count_y : ℕ → Window → ℕ
count_y r a = cond (quarter r) a.width a.height

module _ (m : ℕ) (s : Screen) (e : first_of (field_rows m s) ≡ 0) (on : s.flag ≡ 1) where
  b : WindowLimits m s
  b = window_limits m s e on

  kpos : 0 < per_dword s.depth
  kpos = pos_left (per_dword s.depth) s.depth (accepted m s e).whole

  pub across : (r : ℕ) → s.rotation ≡ r → r < 4 → Span (unit_x r (per_dword s.depth)) (values_of s).x (near_x r s.width s.window) (count_x r s.window)
  unfolding window_x view_width view_height
  across zero t h = along (per_dword s.depth) kpos _ _ _ b.x b.w (x_value s on 0 t) b.x_is b.w_is b.wide (omega (arith, b.right, b.span))
  across (suc zero) t h = lines _ _ _ (x_value s on 1 t) b.high (omega (arith, b.bottom, b.lines))
  across (suc (suc zero)) t h =
      let side : s.width ≡ per_dword s.depth * b.v = omega (arith, main_width s 2 t, b.v_is) in
      along_back (per_dword s.depth) kpos _ s.width s.window.x s.window.width b.x b.w b.v _ _ (x_value s on 2 t) refl
      (end_180 (per_dword s.depth) kpos s.width s.window.x b.x b.w b.v side b.x_is b.wide b.right) side b.x_is b.w_is b.wide b.right b.span
  across (suc (suc (suc zero))) t h =
      lines_back _ s.width s.window.y s.window.height (x_value s on 3 t) b.high (omega (arith, b.bottom, main_height s 3 t)) (omega (arith, b.lines, main_height s 3 t))
  across (suc (suc (suc (suc r)))) t h = absurd (omega arith)

  pub down : (r : ℕ) → s.rotation ≡ r → r < 4 → Span (unit_y r (per_dword s.depth)) (values_of s).y (near_y r s.height s.window) (count_y r s.window)
  unfolding window_y view_width view_height
  down zero t h = lines _ _ _ (y_value s on 0 t) b.high (omega (arith, b.bottom, b.lines))
  down (suc zero) t h =
      let side : s.height ≡ per_dword s.depth * b.v = omega (arith, main_width s 1 t, b.v_is) in
      along_back (per_dword s.depth) kpos _ s.height s.window.x s.window.width b.x b.w b.v _ _ (y_value s on 1 t) refl
      (end_90 (per_dword s.depth) kpos s.height s.window.x b.x b.w b.v side b.x_is b.wide b.right) side b.x_is b.w_is b.wide b.right b.span
  down (suc (suc zero)) t h =
      lines_back _ s.height s.window.y s.window.height (y_value s on 2 t) b.high (omega (arith, b.bottom, main_height s 2 t)) (omega (arith, b.lines, main_height s 2 t))
  down (suc (suc (suc zero))) t h = along (per_dword s.depth) kpos _ _ _ b.x b.w (y_value s on 3 t) b.x_is b.w_is b.wide (omega (arith, b.right, b.span))
  down (suc (suc (suc (suc r)))) t h = absurd (omega arith)
