-- The fields of the six screen registers as orders, and the values of an accepted screen: refusal 21 is never theirs.
use Prim.Native.Nat.{ℕ, ◌/◌, ◌%◌, ◌<◌, ◌≤◌}
use mathlib.Core.Path.{◌≡◌, refl}
use mathlib.Core.Bool.{true, and-eq-true_iff}
use mathlib.Core.Logic.{⊎_elim}
use native.Mathlib.Omega.{arith}
use borrow.Author.Tests.{leb-true, le-leb}
use Rattle.record.specs.Checks.{first_of}
use Rattle.record.proofs.Choice.{and_left, and_right, below_or_not}
use Rattle.pixel.specs.Depth.{per_dword}
use Rattle.screen.specs.Image.{image_end}
use Rattle.screen.specs.Screen.{main_image, window_image, field_rows}
use Rattle.screen.specs.Values.{origin_of, values_of}
use Rattle.screen.specs.Fields.{edges_fit, origin_fits, values_fit}
use Rattle.screen.specs.declared.Image.{Image}
use Rattle.screen.specs.declared.Origin.{Origin}
use Rattle.screen.specs.declared.ScreenValues.{ScreenValues}
use Rattle.screen.specs.declared.Screen.{Screen}
use Rattle.screen.proofs.Accepted.{Aligned, accepted, main_aligned, window_limits}
use Rattle.screen.proofs.Starts.{offset, start_below}
use Rattle.screen.proofs.Spans.{Span, across, down, start_fits, end_fits}
use Rattle.screen.proofs.Values.{main_value, no_window, no_x, no_y, window_value}

-- ---- the fields as orders
pub record OriginFits (o : Origin) : Type 0 where
  pub start : o.start < 65536
  pub offset : o.offset < 1024

pub record EdgesFit (v : ℕ) : Type 0 where
  pub start : v % 65536 < 1024
  pub end : v / 65536 < 1024

pub record InFields (v : ScreenValues) : Type 0 where
  pub main : OriginFits v.main
  pub window : OriginFits v.window
  pub x : EdgesFit v.x
  pub y : EdgesFit v.y

pub origin_says : (o : Origin) → origin_fits o ≡ true → OriginFits o
origin_says o e =
    let t = simp and-eq-true_iff at e in
    record { start = omega (arith, leb-true); offset = omega (arith, leb-true) }

pub origin_passes : (o : Origin) → OriginFits o → origin_fits o ≡ true
origin_passes o f = simp and-eq-true_iff (le-leb o.start 0xFFFF (omega (arith, f.start)), le-leb o.offset 0x3FF (omega (arith, f.offset)))

pub edges_say : (v : ℕ) → edges_fit v ≡ true → EdgesFit v
edges_say v e =
    let t = simp and-eq-true_iff at e in
    record { start = omega (arith, leb-true); end = omega (arith, leb-true) }

pub edges_pass : (v : ℕ) → EdgesFit v → edges_fit v ≡ true
edges_pass v f = simp and-eq-true_iff (le-leb (v % 65536) 0x3FF (omega (arith, f.start)), le-leb (v / 65536) 0x3FF (omega (arith, f.end)))

pub fields_say : (v : ScreenValues) → values_fit v ≡ true → InFields v
unfolding values_fit
fields_say v e =
    let t = and_left _ _ e in
    let u = and_right (origin_fits v.main) _ e in
    let w = and_right (origin_fits v.window) _ u in
    record {
      main = origin_says v.main t;
      window = origin_says v.window (and_left _ _ u);
      x = edges_say v.x (and_left _ _ w);
      y = edges_say v.y (and_right (edges_fit v.x) _ w);
    }

pub fields_pass : (v : ScreenValues) → InFields v → values_fit v ≡ true
unfolding values_fit
fields_pass v f = rw (origin_passes v.main f.main, origin_passes v.window f.window, edges_pass v.x f.x) (edges_pass v.y f.y)

-- ---- the values of an accepted screen
-- an image in the memory
image_fits : (m r k d : ℕ) (i : Image) → Aligned k d i → image_end d i ≤ m → m ≤ 262144 → r < 4 → OriginFits (origin_of r d i)
unfolding origin_of
image_fits m r k d i a e h g =
    record {
      start = omega (arith, start_below k d i a r g);
      offset = omega (arith, offset k d i a, a.short);
    }

span_fits : (unit register near count : ℕ) → Span unit register near count → EdgesFit register
span_fits unit register near count s = record { start = start_fits unit register near count s; end = end_fits unit register near count s }

nothing_fits : EdgesFit 0
nothing_fits = record { start = omega arith; end = omega arith }

module _ (m : ℕ) (s : Screen) (h : m ≤ 262144) (e : first_of (field_rows m s) ≡ 0) where
  main_fits : OriginFits (values_of s).main
  main_fits =
      let a = accepted m s e in
      rw (main_value s)
      (image_fits m s.rotation (per_dword s.depth) s.depth (main_image s) (main_aligned m s a) a.ends h a.rotation)

  fits_off : s.flag ≡ 0 → InFields (values_of s)
  fits_off off =
      record {
        main = main_fits;
        window = rw (no_window s off) (record { start = omega arith; offset = omega arith });
        x = rw (no_x s off) nothing_fits;
        y = rw (no_y s off) nothing_fits;
      }

  fits_on : s.flag ≡ 1 → InFields (values_of s)
  fits_on on =
      let a = accepted m s e in
      let b = window_limits m s e on in
      record {
        main = main_fits;
        window =
            rw (window_value s on)
            (image_fits m s.rotation (per_dword s.depth) s.depth (window_image s) b.image b.ends h a.rotation);
        x = span_fits _ _ _ _ (across m s e on s.rotation refl a.rotation);
        y = span_fits _ _ _ _ (down m s e on s.rotation refl a.rotation);
      }

  pub values_fit_lem : s.flag ≤ 1 → InFields (values_of s)
  values_fit_lem f = ⊎_elim (λ l. fits_off (omega arith)) (λ g. fits_on (omega arith)) (below_or_not s.flag 1)

  pub values_pass : s.flag ≤ 1 → values_fit (values_of s) ≡ true
  values_pass f = fields_pass (values_of s) (values_fit_lem f)
