-- The small window: by the position registers the chip takes exactly the points for it whose view pixels lie in it, and its
-- walk there comes to the window's pixels.
use Prim.Native.Nat.{ℕ, zero, suc, ◌+◌, ◌-◌, ◌*◌, ◌/◌, ◌<◌, ◌≤◌}
use mathlib.Core.Path.{◌≡◌, refl, sym, ap, ap₂, ◌∙◌}
use mathlib.Core.Bool.{Bool, true, false, ◌&&◌, cond, and-eq-true_iff}
use native.Mathlib.Omega.{arith}
use native.Mathlib.Nat.{div-one, mul-one}
use lib.Dec.{leb}
use borrow.Author.Tests.{leb-true, le-leb, eqb-true}
use Rattle.record.specs.Checks.{first_of}
use Rattle.pixel.specs.Depth.{per_dword}
use Rattle.pixel.proofs.Depth.{pos_left}
use Rattle.screen.specs.Screen.{quarter, view_width, view_height, window_image, field_rows}
use Rattle.screen.specs.Values.{origin_of, values_of}
use Rattle.screen.specs.declared.Screen.{Screen}
use Rattle.screen.proofs.Accepted.{accepted, window_limits}
use Rattle.screen.proofs.Values.{main_width, main_height}
use Rattle.screen.proofs.Spans.{Span, unit_x, unit_y, near_x, near_y, count_x, count_y, across, down, near_edge, inside, inside_back}
use Rattle.view.specs.View.{Pixel, pixel_at, view_pixel, among, in_window, window_pixel, bit_address}
use Rattle.view.specs.Walk.{walk, start_edge, end_edge, between, in_window_by, corner_p, corner_q}
use Rattle.view.specs.Shows.{Shows}
use Rattle.view.proofs.Reaches.{panel_width, panel_height, pixel_of, image_shows}

-- ---- tests that say the same
pub same_test : (a b : Bool) → (a ≡ true → b ≡ true) → (b ≡ true → a ≡ true) → a ≡ b
same_test true b f g = sym (f refl)
same_test false true f g = g refl
same_test false false f g = refl

turn : (a b c d a' b' c' d' : ℕ) → ((a ≤ b) × (c ≤ d) → (a' ≤ b') × (c' ≤ d')) → (leb a b && leb c d) ≡ true → (leb a' b' && leb c' d') ≡ true
turn a b c d a' b' c' d' f e =
    let t = simp and-eq-true_iff at e in
    let u = f (leb-true a b t.0, leb-true c d t.1) in
    simp and-eq-true_iff (le-leb a' b' u.0, le-leb c' d' u.1)

-- two pairs of orders
pub same_orders : (a b c d a' b' c' d' : ℕ) → ((a ≤ b) × (c ≤ d) → (a' ≤ b') × (c' ≤ d')) → ((a' ≤ b') × (c' ≤ d') → (a ≤ b) × (c ≤ d)) → (leb a b && leb c d) ≡ (leb a' b' && leb c' d')
same_orders a b c d a' b' c' d' f g = same_test _ _ (turn a b c d a' b' c' d' f) (turn a' b' c' d' a b c d g)

and_swap : (a b : Bool) → (a && b) ≡ (b && a)
and_swap true true = refl
and_swap true false = refl
and_swap false true = refl
and_swap false false = refl

-- ---- along one side
-- between a position register's edges are the points of its span
pub between_is : (unit register near count : ℕ) → Span unit register near count → 0 < unit → (t : ℕ) → between register (t / unit) ≡ among near count t
between_is unit register near count s h t =
    same_orders (start_edge register) (t / unit) (t / unit) (end_edge register) near t (suc t) (near + count)
    (inside unit register near count s h t) (inside_back unit register near count s h t)

-- the points of a span, counted from the side's other end
pub among_back : (side a n t : ℕ) → t < side → a + n ≤ side → among (side - (a + n)) n t ≡ among a n (side - 1 - t)
among_back side a n t h g =
    same_orders (side - (a + n)) t (suc t) (side - (a + n) + n) a (side - 1 - t) (suc (side - 1 - t)) (a + n) (λ e. omega arith) (λ e. omega arith)

counted : (x w u t c : ℕ) → c + (x + w) ≡ u + t + 1 → x ≤ u → u < x + w → (t - c < w) × (w - 1 - (t - c) ≡ u - x)
counted x w u t c e lo hi = omega arith

-- a point t of a side, counted from c, where a span of w from x on begins as seen from the side's other end
from_back : (side x w t c : ℕ) → c ≡ side - (x + w) → x + w ≤ side → t < side → x ≤ side - 1 - t → side - 1 - t < x + w → (t - c < w) × (w - 1 - (t - c) ≡ side - 1 - t - x)
from_back side x w t c e g h lo hi = counted x w (side - 1 - t) t c (here ∙ sym there) lo hi
  where
    here : c + (x + w) ≡ side
    here = omega arith

    there : side - 1 - t + t + 1 ≡ side
    there = omega arith

-- ---- by the registers
-- points counted in the registers' units
pub in_units : (r k x y p q : ℕ) → in_window_by r k x y p q ≡ (between x (p / unit_x r k) && between y (q / unit_y r k))
unfolding in_window_by
in_units r k x y p q = by_side (quarter r)
  where
    by_side : (t : Bool) → cond t (between x p && between y (q / k)) (between x (p / k) && between y q) ≡ (between x (p / cond t 1 k) && between y (q / cond t k 1))
    by_side true = rw (div-one p)
    by_side false = rw (div-one q)

pub corner_p_lem : (r k x : ℕ) → corner_p r k x ≡ start_edge x * unit_x r k
unfolding corner_p
corner_p_lem r k x = by_side (quarter r)
  where
    by_side : (t : Bool) → cond t (start_edge x) (start_edge x * k) ≡ start_edge x * cond t 1 k
    by_side true = sym (mul-one (start_edge x))
    by_side false = refl

corner_q_lem : (r k y : ℕ) → corner_q r k y ≡ start_edge y * unit_y r k
unfolding corner_q
corner_q_lem r k y = by_side (quarter r)
  where
    by_side : (t : Bool) → cond t (start_edge y * k) (start_edge y) ≡ start_edge y * cond t k 1
    by_side true = refl
    by_side false = sym (mul-one (start_edge y))

pub unit_pos : (t : Bool) (a b : ℕ) → 0 < a → 0 < b → 0 < cond t a b
unit_pos true a b g h = g
unit_pos false a b g h = h

pixels : {u v u' v' : ℕ} → u ≡ u' → v ≡ v' → ◌≡◌ {A = Pixel} (pixel_at u v) (pixel_at u' v')
pixels e f = λ i. record { u = e i; v = f i }

-- ---- an accepted window
module _ (m : ℕ) (s : Screen) (f : first_of (field_rows m s) ≡ 0) (on : s.flag ≡ 1) where
  kpos : 0 < per_dword s.depth
  kpos = pos_left (per_dword s.depth) s.depth (accepted m s f).whole

  -- the window lies in the view
  pub within : (r : ℕ) → s.rotation ≡ r → (s.window.x + s.window.width ≤ view_width r s.width s.height) × (s.window.y + s.window.height ≤ view_height r s.width s.height)
  within r e = (omega (arith, (window_limits m s f on).fits, main_width s r e), omega (arith, (window_limits m s f on).bottom, main_height s r e))

  -- the points of the window, from the panel's corner
  abbrev InSpans : ℕ → ℕ → ℕ → Bool
  InSpans r p q = among (near_x r s.width s.window) (count_x r s.window) p && among (near_y r s.height s.window) (count_y r s.window) q

  by_spans : (r : ℕ) → s.rotation ≡ r → r < 4 → (p q : ℕ) → in_window_by r (per_dword s.depth) (values_of s).x (values_of s).y p q ≡ InSpans r p q
  by_spans r e h p q =
      in_units r (per_dword s.depth) (values_of s).x (values_of s).y p q
      ∙ ap₂ ◌&&◌
      (between_is _ _ _ _ (across m s f on r e h) (unit_pos (quarter r) 1 (per_dword s.depth) (omega arith) kpos) p)
      (between_is _ _ _ _ (down m s f on r e h) (unit_pos (quarter r) (per_dword s.depth) 1 kpos (omega arith)) q)

  -- the same points, by their view pixels
  abbrev InRectangle : Pixel → Bool
  InRectangle x = among s.window.x s.window.width x.u && among s.window.y s.window.height x.v

  turned : (r : ℕ) → s.rotation ≡ r → r < 4 → (p q : ℕ) → p < s.width → q < s.height → InSpans r p q ≡ InRectangle (view_pixel r s.width s.height p q)
  unfolding view_pixel view_width view_height within
  turned zero e h p q pw qh = refl
  turned (suc zero) e h p q pw qh =
      and_swap (among s.window.y s.window.height p) (among (s.height - (s.window.x + s.window.width)) s.window.width q)
      ∙ ap (λ (t : Bool). t && among s.window.y s.window.height p) (among_back s.height s.window.x s.window.width q qh (within 1 e).0)
  turned (suc (suc zero)) e h p q pw qh =
      ap₂ ◌&&◌ (among_back s.width s.window.x s.window.width p pw (within 2 e).0) (among_back s.height s.window.y s.window.height q qh (within 2 e).1)
  turned (suc (suc (suc zero))) e h p q pw qh =
      and_swap (among (s.width - (s.window.y + s.window.height)) s.window.height p) (among s.window.x s.window.width q)
      ∙ ap (λ (t : Bool). among s.window.x s.window.width q && t) (among_back s.width s.window.y s.window.height p pw (within 3 e).1)
  turned (suc (suc (suc (suc r)))) e h p q pw qh = absurd (omega arith)

  pub takes_on : (p q : ℕ) → p < s.width → q < s.height → in_window_by s.rotation (per_dword s.depth) (values_of s).x (values_of s).y p q ≡ InRectangle (view_pixel s.rotation s.width s.height p q)
  takes_on p q pw qh = by_spans s.rotation refl (accepted m s f).rotation p q ∙ turned s.rotation refl (accepted m s f).rotation p q pw qh

  -- where the window's walk counts from
  corner : (r : ℕ) → s.rotation ≡ r → r < 4 →
      (corner_p r (per_dword s.depth) (values_of s).x ≡ near_x r s.width s.window)
      × (corner_q r (per_dword s.depth) (values_of s).y ≡ near_y r s.height s.window)
  corner r e h = (
    corner_p_lem r (per_dword s.depth) (values_of s).x ∙ near_edge _ _ _ _ (across m s f on r e h),
    corner_q_lem r (per_dword s.depth) (values_of s).y ∙ near_edge _ _ _ _ (down m s f on r e h),
  )

-- a view pixel in the window, as orders
pub in_window_lem : (s : Screen) (x : Pixel) → in_window s x ≡ true → (s.flag ≡ 1) × (s.window.x ≤ x.u) × (x.u < s.window.x + s.window.width) × (s.window.y ≤ x.v) × (x.v < s.window.y + s.window.height)
unfolding in_window
in_window_lem s x t =
    let e = simp and-eq-true_iff at t in
    omega (arith, leb-true, eqb-true)

-- the window's pixel there is one of the window image's
pub window_pixel_in : (s : Screen) (x : Pixel) → in_window s x ≡ true → ((window_pixel s x).u < (window_image s).width) × ((window_pixel s x).v < (window_image s).height)
unfolding window_pixel window_image
window_pixel_in s x t =
    let i = in_window_lem s x t in
    omega arith

module _ (m : ℕ) (s : Screen) (f : first_of (field_rows m s) ≡ 0) (on : s.flag ≡ 1) where
  -- the point counted from the window's corner
  abbrev pub local_p : ℕ → ℕ → ℕ
  local_p r p = p - corner_p r (per_dword s.depth) (values_of s).x

  abbrev pub local_q : ℕ → ℕ → ℕ
  local_q r q = q - corner_q r (per_dword s.depth) (values_of s).y

  -- it is one that the window's image covers, and the image's pixel there is the window's
  local : (r : ℕ) → s.rotation ≡ r → r < 4 → (p q : ℕ) → p < s.width → q < s.height → in_window s (view_pixel r s.width s.height p q) ≡ true →
      (local_p r p < panel_width r (window_image s))
      × (local_q r q < panel_height r (window_image s))
      × (pixel_of r (window_image s) (local_p r p) (local_q r q) ≡ window_pixel s (view_pixel r s.width s.height p q))
  unfolding view_pixel view_width view_height window_pixel window_image within
  local zero e h p q pw qh t =
      let c = corner m s f on 0 e h in
      let i = in_window_lem s _ t in
      (omega arith, omega arith, pixels (ap (λ (x : ℕ). p - x) c.0) (ap (λ (x : ℕ). q - x) c.1))
  local (suc zero) e h p q pw qh t =
      let c = corner m s f on 1 e h in
      let i = in_window_lem s _ t in
      let g = from_back s.height s.window.x s.window.width q _ c.1 (within m s f on 1 e).0 qh i.1 i.2 in
      (omega (arith, c.0, i), g.0, pixels g.1 (ap (λ (x : ℕ). p - x) c.0))
  local (suc (suc zero)) e h p q pw qh t =
      let c = corner m s f on 2 e h in
      let i = in_window_lem s _ t in
      let g = from_back s.width s.window.x s.window.width p _ c.0 (within m s f on 2 e).0 pw i.1 i.2 in
      let j = from_back s.height s.window.y s.window.height q _ c.1 (within m s f on 2 e).1 qh i.3 i.4 in
      (g.0, j.0, pixels g.1 j.1)
  local (suc (suc (suc zero))) e h p q pw qh t =
      let c = corner m s f on 3 e h in
      let i = in_window_lem s _ t in
      let j = from_back s.width s.window.y s.window.height p _ c.0 (within m s f on 3 e).1 pw i.3 i.4 in
      (j.0, omega (arith, c.1, i), pixels (ap (λ (x : ℕ). q - x) c.1) j.1)
  local (suc (suc (suc (suc r)))) e h p q pw qh t = absurd (omega arith)

  -- the walk over the window's image comes to the window's pixel
  pub window_shows : (p q : ℕ) → p < s.width → q < s.height → in_window s (view_pixel s.rotation s.width s.height p q) ≡ true →
      Shows m s.depth
      (walk s.rotation (per_dword s.depth) (origin_of s.rotation s.depth (window_image s)) (local_p s.rotation p) (local_q s.rotation q))
      (bit_address s.depth (window_image s) (window_pixel s (view_pixel s.rotation s.width s.height p q)))
  window_shows p q pw qh t =
      let g = (accepted m s f).rotation in
      let b = window_limits m s f on in
      let l = local s.rotation refl g p q pw qh t in
      rw l.2 at
      (image_shows m (per_dword s.depth) s.depth (window_image s) b.image b.ends s.rotation _ _ g l.0 l.1)
