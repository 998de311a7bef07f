-- What one command on the main image makes of one of its pixels.
use Prim.Native.Nat.{ℕ, ◌+◌, ◌-◌, ◌*◌, ◌/◌, ◌%◌, ◌^◌, ◌<◌, ◌≤◌}
use mathlib.Core.Path.{◌≡◌, refl, sym, ap, ◌∙◌}
use mathlib.Core.Bool.{Bool, true, false, ◌&&◌, cond}
use mathlib.Core.List.{List}
use mathlib.Core.Logic.{⊎_elim}
use native.Mathlib.Omega.{arith}
use native.Mathlib.Nat.{mul-le-mul_right, zero-add}
use lib.ListN.{length, get_or}
use lib.Dec.{leb}
use borrow.Author.Tests.{le-leb}
use Rattle.record.proofs.Lists.{get_d_tabulate}
use Rattle.pixel.specs.Pixel.{get_pixel, put_pixel, byte_of}
use Rattle.pixel.proofs.Pixels.{get_ext, get_put, put_hit}
use Rattle.pixel.proofs.Raster.{copies}
use Rattle.screen.specs.Screen.{main_image}
use Rattle.screen.specs.declared.Image.{Image}
use Rattle.screen.specs.declared.Screen.{Screen}
use Rattle.view.specs.View.{pixel_at, among}
use Rattle.command.specs.Command.{surface_of}
use Rattle.command.specs.declared.Command.{Command}
use Rattle.unit.specs.Sheet.{sheet_pixel, host_pixel, sheet_source, sheet_mix, new_pixel, sheet_line, sheet_column, sheet_lane, changes, sheet_byte, sheet_command}
use Rattle.unit.proofs.Rectangles.{Frame, At, surface_line, surface_column, surface_lane}
use Rattle.unit.proofs.Painted.{OneOrTwo, sheet_get}
use Rattle.unit.proofs.Drawable.{Surface}
use Rattle.wear.specs.Strip.{fill_at, glyph_at, glyph_size}

-- a command's rectangle has pixel (u, v)
abbrev pub covers : Command → ℕ → ℕ → Bool
covers c u v = among c.x c.width u && among c.y c.height v

module _ (m B : ℕ) (s : Screen) (o : Surface m B (main_image s)) (deep : s.depth ≡ 8 * B) (size : OneOrTwo B) (c : Command) (on_main : surface_of s c ≡ main_image s)
    (words old : List ℕ) (len : length old ≡ m) (u v : ℕ) (hu : u < (main_image s).width) (hv : v < (main_image s).height) where
  abbrev main : Image
  main = main_image s

  abbrev new : List ℕ
  new = sheet_command s c words old

  -- the whole image as a rectangle of itself
  abbrev frame : Frame
  frame = record { base = main.base; line = main.line; bytes = B; x = 0; y = 0; width = main.width; height = main.height }

  -- the pixel's first byte
  abbrev start : ℕ
  start = main.base + (v * main.line + u * B)

  some : 0 < B
  some = ⊎_elim (λ e. omega arith) (λ e. omega arith) size

  room : (0 + main.width) * B ≤ main.line
  room = rw (zero-add main.width) o.shown

  per : s.depth / 8 ≡ B
  per = omega arith

  at : (k : ℕ) → k < B → At frame (start + k)
  at k h = record { i = u; j = v; k = k; column = hu; line = hv; lane = h; is = omega arith }

  inside : start + B ≤ m
  inside =
      let across = mul-le-mul_right B hu in
      let down : v ≤ main.height - 1 = omega arith in
      omega (arith, across, mul-le-mul_right main.line down, o.ends)

  module _ (k : ℕ) (h : k < B) where
    line_is : sheet_line (surface_of s c) (start + k) ≡ v
    unfolding at
    line_is = ap (λ (i : Image). sheet_line i (start + k)) on_main ∙ surface_line frame (start + k) some room (at k h) ∙ zero-add v

    column_is : sheet_column s.depth (surface_of s c) (start + k) ≡ u
    unfolding at
    column_is = (λ t. ((start + k) - (on_main t).base) % (on_main t).line / per t) ∙ surface_column frame (start + k) some room (at k h) ∙ zero-add u

    lane_is : sheet_lane s.depth (surface_of s c) (start + k) ≡ k
    unfolding at
    lane_is = (λ t. ((start + k) - (on_main t).base) % (on_main t).line % per t) ∙ surface_lane frame (start + k) some room (at k h)

    behind : leb (surface_of s c).base (start + k) ≡ true
    behind = ap (λ (i : Image). leb i.base (start + k)) on_main ∙ le-leb main.base (start + k) (omega arith)

    -- its byte k
    byte_is : get_or new (start + k) 0 ≡ cond (covers c u v) (byte_of k (new_pixel s c words old (u - c.x) (v - c.y))) (get_or old (start + k) 0)
    unfolding sheet_command sheet_byte changes
    byte_is =
        get_d_tabulate (length old) (sheet_byte s c words old) (start + k) (omega (arith, inside))
        ∙ (λ t.
        cond (behind t && (among c.x c.width (column_is t) && among c.y c.height (line_is t)))
        (byte_of (lane_is t) (new_pixel s c words old (column_is t - c.x) (line_is t - c.y)))
        (get_or old (start + k) 0))

  -- a byte from the pixel's first on
  by_lane : (l : List ℕ) → ((k : ℕ) → k < B → get_or new (start + k) 0 ≡ get_or l (start + k) 0) → get_pixel B new start ≡ get_pixel B l start
  by_lane l f = get_ext B new l start (λ x p q. let e : start + (x - start) ≡ x = omega arith in rw e at (f (x - start) (omega arith)))

  -- a pixel of the rectangle
  pub pixel_new : covers c u v ≡ true → sheet_pixel s.depth main new (pixel_at u v) ≡ new_pixel s c words old (u - c.x) (v - c.y) % 256 ^ B
  pixel_new e =
      let n = new_pixel s c words old (u - c.x) (v - c.y) in
      sheet_get s.depth B deep size main new u v
      ∙ by_lane (put_pixel B old start n)
      (λ k h.
      byte_is k h
      ∙ ap (λ (t : Bool). cond t (byte_of k n) (get_or old (start + k) 0)) e
      ∙ sym (put_hit B old start n k h (omega (arith, inside))))
      ∙ get_put B old start n (omega (arith, inside))

  -- any other
  pub pixel_kept : covers c u v ≡ false → sheet_pixel s.depth main new (pixel_at u v) ≡ sheet_pixel s.depth main old (pixel_at u v)
  pixel_kept e =
      sheet_get s.depth B deep size main new u v
      ∙ by_lane old (λ k h. byte_is k h ∙ ap (λ (t : Bool). cond t (byte_of k (new_pixel s c words old (u - c.x) (v - c.y))) (get_or old (start + k) 0)) e)
      ∙ sym (sheet_get s.depth B deep size main old u v)

-- ---- a fill's pixel is its colour, a glyph's the host pixel
pub fill_new : (s : Screen) (words old : List ℕ) (x y width height colour i j : ℕ) → new_pixel s (fill_at x y width height colour) words old i j ≡ colour
unfolding new_pixel sheet_mix sheet_source
fill_new s words old x y width height colour i j = refl

pub glyph_new : (s : Screen) (words old : List ℕ) (x y i j : ℕ) → new_pixel s (glyph_at x y) words old i j ≡ host_pixel s.depth glyph_size words i j % 2 ^ s.depth
unfolding new_pixel sheet_mix sheet_source
glyph_new s words old x y i j = copies s.depth _ _
