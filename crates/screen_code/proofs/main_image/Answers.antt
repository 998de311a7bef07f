use Prim.Native.Nat.{ℕ, ◌<◌}
use native.Mathlib.Omega.{arith}
use Rattle.screen.specs.Screen.{view_width, view_height}
use Rattle.screen.proofs.View.{view_sides}
use Rattle.screen_code.proofs.main_image.Goals as goal

-- the view's sides are 16-bit numbers
below : (rotation width height : ℕ) → width < 65536 → height < 65536 → (view_width rotation width height < 65536) × (view_height rotation width height < 65536)
below rotation width height w h = view_sides (λ x y. (x < 65536) × (y < 65536)) rotation width height (w, h) (h, w)

pub overflow_cast-width : goal.overflow_cast-width
overflow_cast-width c = omega (arith, c.view_width-width.ensures, below c.args.s.rotation c.args.s.width c.args.s.height (omega arith) (omega arith))

pub overflow_cast-height : goal.overflow_cast-height
overflow_cast-height c = omega (arith, c.view_height-height.ensures, below c.args.s.rotation c.args.s.width c.args.s.height (omega arith) (omega arith))
