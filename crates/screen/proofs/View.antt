-- The view has the panel's two sides, in one order or the other.
use Prim.Native.Nat.{ℕ}
use mathlib.Core.Bool.{Bool, true, false, cond}
use Rattle.screen.specs.Screen.{quarter, view_width, view_height}

-- what holds of the panel's sides in both orders holds of the view's
pub view_sides : (P : ℕ → ℕ → Type 0) (rotation width height : ℕ) → P width height → P height width → P (view_width rotation width height) (view_height rotation width height)
unfolding view_width view_height
view_sides P rotation width height a b = turned (quarter rotation)
  where
    turned : (t : Bool) → P (cond t height width) (cond t width height)
    turned true = b
    turned false = a
