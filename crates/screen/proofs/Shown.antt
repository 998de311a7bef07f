-- A record whose line lengths are 0 means what 01 says.
use Prim.Native.Nat.{ℕ, ◌+◌, ◌-◌, ◌*◌, ◌/◌, ◌<◌}
use mathlib.Core.Path.{◌≡◌, refl, ap, ◌∙◌}
use mathlib.Core.Bool.{Bool, true, false, not, ◌&&◌}
use mathlib.Core.List.{List}
use native.Mathlib.Omega.{arith}
use borrow.Author.Tests.{eq-eqb}
use Rattle.record.specs.Checks.{first_of}
use Rattle.pixel.specs.Depth.{is_depth, per_dword}
use Rattle.pixel.proofs.Depth.{full}
use Rattle.screen.specs.Image.{line_bytes, line_pixels, start_of}
use Rattle.screen.specs.Screen.{whole_dwords, main_image, window_image, line_ok, windowed, fields_of, field_rows, screen_rows}
use Rattle.screen.specs.Values.{origin_of, values_of}
use Rattle.screen.specs.Shown.{shown_start, without, NoLengths, As01, ShownWidths}
use Rattle.screen.specs.declared.Image.{Image}
use Rattle.screen.specs.declared.Origin.{Origin}
use Rattle.screen.specs.declared.Screen.{Screen}
use Rattle.screen.proofs.Accepted.{Aligned, bits_of, whole_is, whole_says, accepted, main_aligned, window_limits}
use Rattle.screen.proofs.Values.{main_value, window_value}

-- ---- 26 is not given
-- the length that is not given is the shown width's
as_wide : (given width : ℕ) → given ≡ 0 → line_pixels given width ≡ width
as_wide given width e = rw (eq-eqb given 0 e) refl

not_asked : (depth given width : ℕ) → given ≡ 0 → not (line_ok depth given width) ≡ false
unfolding line_ok
not_asked depth given width e = rw (eq-eqb given 0 e) refl

not_failing : (t b : Bool) → b ≡ false → (t && b) ≡ false
not_failing true b e = e
not_failing false b e = refl

pub refused_as_01 : (m : ℕ) (b : List ℕ) → NoLengths (fields_of b) → first_of (screen_rows m b) ≡ first_of (without 26 (screen_rows m b))
unfolding screen_rows field_rows without first_of
refused_as_01 m b z =
    let s = fields_of b in
    rw (
      not_asked s.depth s.line (main_image s).width z.main,
      not_failing (windowed s) (not (line_ok s.depth s.window.line s.window.width)) (not_asked s.depth s.window.line s.window.width z.window),
    ) refl

-- ---- the starts
-- an image of lines as long as it is wide, n dwords of k pixels
module _ (k d n : ℕ) (kd : k * d ≡ 32) (i : Image) (width : i.width ≡ k * n) (high : 0 < i.height) (line : i.line ≡ line_bytes d i.width) where
  -- the bytes of l lines are those of their pixels
  lines : (l : ℕ) → l * i.line ≡ l * i.width * d / 8
  lines l =
      let bits = bits_of k d n i.width kd width in
      let dwords : i.line ≡ 4 * n = omega (arith, line, bits) in
      omega (arith, ap (λ (x : ℕ). l * x) bits, ap (λ (x : ℕ). l * x) dwords)

  at_180 : (i.height - 1) * i.line + i.width * d / 8 ≡ i.width * i.height * d / 8
  at_180 =
      let h : i.height - 1 + 1 ≡ i.height = omega (arith, high) in
      omega (arith, line, lines i.height, ap (λ (x : ℕ). x * i.line) h)

  start_as_01 : (r : ℕ) → start_of r d i ≡ shown_start r d i
  unfolding start_of shown_start
  start_as_01 r =
      let e : (i.base + (i.height - 1) * i.line + i.width * d / 8) / 4 - 1 ≡ (i.base + i.width * i.height * d / 8) / 4 - 1 = omega (arith, at_180) in
      let f : (i.base + (i.height - 1) * i.line) / 4 ≡ (i.base + (i.height - 1) * i.width * d / 8) / 4 = omega (arith, lines (i.height - 1)) in
      rw (e, f) refl

pub starts_as_01 : (r d : ℕ) (i : Image) → is_depth d ≡ true → whole_dwords d i.width ≡ true → 0 < i.height → i.line ≡ line_bytes d i.width → start_of r d i ≡ shown_start r d i
starts_as_01 r d i ok whole high line =
    start_as_01 (per_dword d) d (i.width / per_dword d) (full d ok) i (whole_is (per_dword d) i.width (whole_says d i.width whole)) high line r

-- ---- the two images
line_as_shown : (depth given width : ℕ) → given ≡ 0 → line_bytes depth (line_pixels given width) ≡ line_bytes depth width
line_as_shown depth given width e = ap (line_bytes depth) (as_wide given width e)

image_as_01 : (k r d start : ℕ) (i : Image) → Aligned k d i → i.line ≡ line_bytes d i.width → start ≡ start_of r d i → As01 r d start i
image_as_01 k r d start i a line e = record { line = line; start_is = e ∙ start_as_01 k d a.m a.whole i a.width_is a.high line r }

module _ (m : ℕ) (s : Screen) (z : NoLengths s) (e : first_of (field_rows m s) ≡ 0) where
  main_as_01 : As01 s.rotation s.depth (values_of s).main.start (main_image s)
  unfolding main_image origin_of
  main_as_01 =
      image_as_01 (per_dword s.depth) s.rotation s.depth (values_of s).main.start (main_image s) (main_aligned m s (accepted m s e))
      (line_as_shown s.depth s.line (main_image s).width z.main) (ap (λ (o : Origin). o.start) (main_value s))

  window_as_01 : s.flag ≡ 1 → As01 s.rotation s.depth (values_of s).window.start (window_image s)
  unfolding window_image origin_of
  window_as_01 on =
      image_as_01 (per_dword s.depth) s.rotation s.depth (values_of s).window.start (window_image s) (window_limits m s e on).image
      (line_as_shown s.depth s.window.line s.window.width z.window) (ap (λ (o : Origin). o.start) (window_value s on))

pub shown_widths : (m : ℕ) → ShownWidths m
shown_widths m = record { start = starts_as_01; refused = refused_as_01 m; main = main_as_01 m; window = window_as_01 m }
