-- A command that is not refused, on an accepted screen, is one that the chip can draw.
use mathlib.Core.Path.{◌≡◌, refl, ap}
use mathlib.Core.Bool.{Bool, true, false, cond}
use mathlib.Core.List.{List}
use mathlib.Core.Logic.{inl, inr, ⊎_elim}
use Prim.Native.Nat.{ℕ, ◌+◌, ◌-◌, ◌*◌, ◌/◌, ◌%◌, ◌≤◌}
use native.Mathlib.Omega.{arith}
use lib.Dec.{eqb}
use borrow.Author.Tests.{eqb-false}
use Rattle.record.specs.Lists.{AllBelow}
use Rattle.record.specs.Checks.{first_of}
use Rattle.pixel.specs.Depth.{is_depth}
use Rattle.pixel.proofs.Depth.{depth, factor_le}
use Rattle.screen.specs.Image.{line_bytes, image_end}
use Rattle.screen.specs.Screen.{main_image, window_image, field_rows}
use Rattle.screen.specs.declared.Image.{Image}
use Rattle.screen.specs.declared.Screen.{Screen}
use Rattle.screen.proofs.Accepted.{Aligned, accepted, window_limits, main_aligned, main_sides, window_sides}
use Rattle.screen.proofs.Starts.{in_line, line_short}
use Rattle.command.specs.Command.{command_of, surface_of}
use Rattle.command.specs.declared.Command.{Command}
use Rattle.command.proofs.Fine.{Fine}
use Rattle.unit.proofs.Painted.{OneOrTwo}
use Rattle.unit.proofs.Registers.{Drawable}

-- a depth from 8 on is one or two whole bytes
whole_bytes : (d : ℕ) → is_depth d ≡ true → 8 ≤ d → (d ≡ 8 * (d / 8)) × OneOrTwo (d / 8)
whole_bytes d h deep =
    ⊎_elim
    (λ e. (omega arith, inr (omega arith)))
    (λ p.
    let e : d ≡ 8 = omega (arith, factor_le p.0 d 7 p.1) in
    (omega arith, inl (omega arith)))
    (depth d h).narrow

-- an image in a memory of m bytes, with B bytes to a pixel
pub record Surface (m B : ℕ) (i : Image) : Type 0 where
  pub narrow : i.width ≤ 1024
  pub low : i.height ≤ 1024
  pub shown : i.width * B ≤ i.line
  pub short : i.line ≤ 4092
  pub whole : i.line % 4 ≡ 0
  pub base : i.base % 4 ≡ 0
  pub ends : i.base + (i.height - 1) * i.line + i.width * B ≤ m

surface : (m d k : ℕ) (i : Image) → d ≡ 8 * (d / 8) → Aligned k d i → i.width ≤ 1024 → i.height ≤ 1024 → image_end d i ≤ m → Surface m (d / 8) i
unfolding image_end
surface m d k i deep a narrow low ends =
    let bytes : line_bytes d i.width ≡ i.width * (d / 8) = omega (arith, ap (λ (n : ℕ). i.width * n) deep) in
    record {
      narrow = narrow;
      low = low;
      shown = omega (arith, bytes, in_line k d i a);
      short = line_short k d i a;
      whole = omega (arith, a.line_is);
      base = omega (arith, a.base_is);
      ends = omega (arith, ends, bytes);
    }

module _ (m : ℕ) (s : Screen) (e : first_of (field_rows m s) ≡ 0) (flag : s.flag ≤ 1) (deep : 8 ≤ s.depth) where
  pub bytes : s.depth ≡ 8 * (s.depth / 8)
  bytes = (whole_bytes s.depth (accepted m s e).depth deep).0

  main_surface : Surface m (s.depth / 8) (main_image s)
  main_surface =
      let a = accepted m s e in
      let g = main_sides m s a in
      surface m s.depth _ (main_image s) bytes (main_aligned m s a) g.2 g.3 a.ends

  window_surface : s.flag ≡ 1 → Surface m (s.depth / 8) (window_image s)
  window_surface on =
      let w = window_limits m s e on in
      let g = window_sides m s e on in
      surface m s.depth _ (window_image s) bytes w.image g.2 g.3 w.ends

  -- the surface that a command names
  pub surface_ok : (c : Command) → c.surface ≤ s.flag → Surface m (s.depth / 8) (surface_of s c)
  unfolding surface_of
  surface_ok c h = chosen (eqb c.surface 0) refl
    where
      chosen : (t : Bool) → eqb c.surface 0 ≡ t → Surface m (s.depth / 8) (cond t (main_image s) (window_image s))
      chosen true q = main_surface
      chosen false q = window_surface (omega (arith, eqb-false c.surface 0 q))

  -- a colour is a number of two bytes, and so is a key colour
  colour_fits : (b : List ℕ) → AllBelow 256 b → (command_of b).colour ≤ 65535
  unfolding command_of
  colour_fits b h = omega (arith, h 16, h 17)

  key_fits : (b : List ℕ) → AllBelow 256 b → (command_of b).key ≤ 65535
  unfolding command_of
  key_fits b h = omega (arith, h 32, h 33)

  pub drawable : m ≤ 262144 → (left : ℕ) (b : List ℕ) → AllBelow 256 b → Fine m s left (command_of b) → Drawable m (s.depth / 8) s (command_of b)
  drawable small left b bound f =
      let o = surface_ok (command_of b) f.surface in
      record {
        deep = bytes;
        size = (whole_bytes s.depth (accepted m s e).depth deep).1;
        width = f.wide;
        height = f.high;
        right = f.destination.right;
        bottom = f.destination.bottom;
        source_right = λ h. (f.source h).right;
        source_bottom = λ h. (f.source h).bottom;
        operation = f.operation;
        raster = f.raster;
        colour = colour_fits b bound;
        key = key_fits b bound;
        low_key = f.key;
        pattern = f.pattern;
        source_apart = f.source_apart;
        narrow = o.narrow;
        low = o.low;
        shown = o.shown;
        short = o.short;
        whole = o.whole;
        base = o.base;
        ends = o.ends;
        small = small;
      }
