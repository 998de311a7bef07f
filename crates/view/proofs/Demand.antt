-- Demand 2: each panel point shows the one image pixel that the rotation names, inside memory, the small window over the main.
use Prim.Native.Nat.{ℕ, zero, suc, ◌<◌}
use mathlib.Core.Path.{◌≡◌, refl}
use mathlib.Core.Bool.{Bool, true, false, ◌&&◌, cond}
use native.Mathlib.Omega.{arith}
use lib.Dec.{eqb}
use borrow.Author.Tests.{eqb-true}
use Rattle.record.specs.Checks.{first_of}
use Rattle.pixel.specs.Depth.{per_dword}
use Rattle.screen.specs.Screen.{view_width, view_height, main_image, window_image, field_rows}
use Rattle.screen.specs.Values.{values_of}
use Rattle.screen.specs.declared.Screen.{Screen}
use Rattle.screen.proofs.Accepted.{accepted, main_aligned}
use Rattle.screen.proofs.Values.{main_value, window_value}
use Rattle.view.specs.View.{view_pixel, in_window, window_pixel, bit_address}
use Rattle.view.specs.Walk.{walk, in_window_by, place_of}
use Rattle.view.specs.Shows.{Shows, shown_bit}
use Rattle.view.proofs.Reaches.{panel_width, panel_height, pixel_in, image_shows}
use Rattle.view.proofs.Window.{takes_on, in_window_lem, window_shows}

-- the main image covers the panel
covers : (r : ℕ) (s : Screen) → s.rotation ≡ r → r < 4 → (panel_width r (main_image s) ≡ s.width) × (panel_height r (main_image s) ≡ s.height)
unfolding main_image view_width view_height
covers zero s e h = (rw e, rw e)
covers (suc zero) s e h = (rw e, rw e)
covers (suc (suc zero)) s e h = (rw e, rw e)
covers (suc (suc (suc zero))) s e h = (rw e, rw e)
covers (suc (suc (suc (suc r)))) s e h = absurd (omega arith)

-- two choices by one test: what holds of each pair holds of the pair chosen
both : {A : Type 0} (P : A → ℕ → Type 0) (t : Bool) (x y : A) (u v : ℕ) → (t ≡ true → P x u) → P y v → P (cond t x y) (cond t u v)
both P true x y u v f g = f refl
both P false x y u v f g = g

module _ (m : ℕ) (s : Screen) (f : first_of (field_rows m s) ≡ 0) (p q : ℕ) (pw : p < s.width) (qh : q < s.height) where
  -- the view pixel of a panel point is one of the main image's
  pub view_in : ((view_pixel s.rotation s.width s.height p q).u < (main_image s).width) × ((view_pixel s.rotation s.width s.height p q).v < (main_image s).height)
  view_in =
      let h = (accepted m s f).rotation in
      let c = covers s.rotation s refl h in
      rw (c.0, c.1) at (pixel_in s.rotation (main_image s) p q h (omega (arith, c.0)) (omega (arith, c.1)))

  -- the walk over the main image comes to it
  pub main_shows : Shows m s.depth (walk s.rotation (per_dword s.depth) (values_of s).main p q) (bit_address s.depth (main_image s) (view_pixel s.rotation s.width s.height p q))
  main_shows =
      let a = accepted m s f in
      let c = covers s.rotation s refl a.rotation in
      rw (main_value s)
      (rw (c.0, c.1) at
      (image_shows m (per_dword s.depth) s.depth (main_image s) (main_aligned m s a) a.ends s.rotation p q a.rotation (omega (arith, c.0)) (omega (arith, c.1))))

  -- by the registers a point is the window's exactly where its view pixel lies in the window
  takes_by : (t : Bool) → eqb s.flag 1 ≡ t → (t && in_window_by s.rotation (per_dword s.depth) (values_of s).x (values_of s).y p q) ≡ in_window s (view_pixel s.rotation s.width s.height p q)
  unfolding in_window
  takes_by true e = rw e (takes_on m s f (eqb-true s.flag 1 e) p q pw qh)
  takes_by false e = rw e

  pub takes : (eqb s.flag 1 && in_window_by s.rotation (per_dword s.depth) (values_of s).x (values_of s).y p q) ≡ in_window s (view_pixel s.rotation s.width s.height p q)
  takes = takes_by (eqb s.flag 1) refl

  pub demand_2 : Shows m s.depth (place_of s.depth s.rotation s.flag (values_of s) p q) (shown_bit s p q)
  unfolding place_of shown_bit
  demand_2 =
      rw takes
      (both (Shows m s.depth) (in_window s (view_pixel s.rotation s.width s.height p q)) _ _ _ _
      (λ t. let on = (in_window_lem s _ t).0 in rw (window_value s on) (window_shows m s f on p q pw qh t))
      main_shows)

-- what is said of the bits that a panel point shows, where it is said of the window's and of the main image's
pub shown_either : (P : ℕ → ℕ → Type 0) (s : Screen) (p q a b : ℕ) →
    let x = view_pixel s.rotation s.width s.height p q in
    (in_window s x ≡ true → P (bit_address s.depth (window_image s) (window_pixel s x)) a)
    → P (bit_address s.depth (main_image s) x) b
    → P (shown_bit s p q) (cond (in_window s x) a b)
unfolding shown_bit
shown_either P s p q a b = both P (in_window s (view_pixel s.rotation s.width s.height p q)) _ _ a b
