-- The six values with the window off and on.
use Prim.Native.Nat.{ℕ}
use mathlib.Core.Path.{◌≡◌, refl, ap}
use mathlib.Core.Bool.{true, false}
use mathlib.Core.List.{List, [], ◌∷◌}
use native.Mathlib.Omega.{arith}
use lib.Dec.{eqb}
use lib.ListN.{length}
use borrow.Author.Tests.{eq-eqb, ne_eqb}
use Rattle.pixel.specs.Depth.{per_dword}
use Rattle.screen.specs.Screen.{view_width, view_height, main_image, window_image}
use Rattle.screen.specs.Values.{window_x, window_y, origin_of, values_of, six_values, values_with}
use Rattle.screen.specs.declared.Screen.{Screen}
use Rattle.screen.specs.declared.ScreenValues.{ScreenValues}

pub main_value : (s : Screen) → (values_of s).main ≡ origin_of s.rotation s.depth (main_image s)
unfolding values_of
main_value s = refl

-- flag 0: the last four are 0
module _ (s : Screen) (off : s.flag ≡ 0) where
  is_off : eqb s.flag 0 ≡ true
  is_off = eq-eqb s.flag 0 off

  pub no_window : (values_of s).window ≡ record { start = 0; offset = 0 }
  unfolding values_of
  no_window = rw is_off

  pub no_x : (values_of s).x ≡ 0
  unfolding values_of
  no_x = rw is_off

  pub no_y : (values_of s).y ≡ 0
  unfolding values_of
  no_y = rw is_off

-- flag 1, at rotation r
module _ (s : Screen) (on : s.flag ≡ 1) where
  is_on : eqb s.flag 0 ≡ false
  is_on = ne_eqb s.flag 0 (λ z. omega arith)

  pub window_value : (values_of s).window ≡ origin_of s.rotation s.depth (window_image s)
  unfolding values_of
  window_value = rw is_on

  pub x_value : (r : ℕ) → s.rotation ≡ r → (values_of s).x ≡ window_x r (per_dword s.depth) s.width s.window
  unfolding values_of
  x_value r e = rw is_on (ap (λ (t : ℕ). window_x t (per_dword s.depth) s.width s.window) e)

  pub y_value : (r : ℕ) → s.rotation ≡ r → (values_of s).y ≡ window_y r (per_dword s.depth) s.height s.window
  unfolding values_of
  y_value r e = rw is_on (ap (λ (t : ℕ). window_y t (per_dword s.depth) s.height s.window) e)

-- the main image's sides at rotation r
pub main_width : (s : Screen) (r : ℕ) → s.rotation ≡ r → (main_image s).width ≡ view_width r s.width s.height
unfolding main_image
main_width s r e = ap (λ (t : ℕ). view_width t s.width s.height) e

pub main_height : (s : Screen) (r : ℕ) → s.rotation ≡ r → (main_image s).height ≡ view_height r s.width s.height
unfolding main_image
main_height s r e = ap (λ (t : ℕ). view_height t s.width s.height) e

-- the six values stand in the stream's order
pub six_order : (a b c d x y : ℕ) → six_values (record { main = record { start = a; offset = b }; window = record { start = c; offset = d }; x = x; y = y }) ≡ a ∷ b ∷ c ∷ d ∷ x ∷ y ∷ []
six_order a b c d x y = refl

-- six numbers are the six of their values, and values are those of their six numbers
pub values_back : (v : ScreenValues) → values_with (six_values v) ≡ v
values_back v = refl

pub six_back : (l : List ℕ) → length l ≡ 6 → six_values (values_with l) ≡ l
six_back (a ∷ b ∷ c ∷ d ∷ x ∷ y ∷ []) e = refl
six_back [] e = absurd (omega arith)
six_back (a ∷ []) e = absurd (omega arith)
six_back (a ∷ b ∷ []) e = absurd (omega arith)
six_back (a ∷ b ∷ c ∷ []) e = absurd (omega arith)
six_back (a ∷ b ∷ c ∷ d ∷ []) e = absurd (omega arith)
six_back (a ∷ b ∷ c ∷ d ∷ x ∷ []) e = absurd (omega arith)
six_back (a ∷ b ∷ c ∷ d ∷ x ∷ y ∷ z ∷ l) e = absurd (omega arith)
