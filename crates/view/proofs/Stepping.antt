-- The walk along a panel line by steps comes, column by column, to the places that the chip looks at; and the window's columns are those between two.
use Prim.Native.Nat.{ℕ, zero, suc, ◌+◌, ◌-◌, ◌*◌, ◌/◌, ◌≤◌, ◌<◌, min, max}
use mathlib.Core.Path.{◌≡◌, refl, sym, ap, ◌∙◌}
use mathlib.Core.Bool.{Bool, true, false, ◌&&◌, cond}
use native.Mathlib.Omega.{arith}
use native.Mathlib.Nat.{div-le_self, div-lt_iff_lt-mul, div-one, le-div_iff_mul-le, le-pred_of_lt, mul-le-mul}
use lib.Dec.{leb, ltb, eqb}
use borrow.Author.Tests.{le-ltb, leb-true}
use Rattle.record.proofs.Choice.{and_left, and_right}
use Rattle.pixel.specs.Depth.{is_depth, per_dword}
use Rattle.pixel.proofs.Depth.{back, full, depth_le, per_dword_pos, split}
use Rattle.screen.specs.Screen.{quarter}
use Rattle.screen.specs.Fields.{values_fit}
use Rattle.screen.specs.declared.Origin.{Origin}
use Rattle.screen.specs.declared.ScreenValues.{ScreenValues}
use Rattle.screen.proofs.Fits.{OriginFits, fields_say}
use Rattle.screen.proofs.Spans.{unit_x, unit_y}
use Rattle.view.specs.Walk.{walk, start_edge, end_edge, between, corner_p, corner_q, place_of}
use Rattle.view.specs.Steps.{is_windows, meets_window, window_columns, steps_at, steps_from, ahead_after, behind_after}
use Rattle.view.specs.declared.Place.{Place}
use Rattle.view.specs.declared.Columns.{Columns}
use Rattle.view.proofs.Reaches.{low_place}
use Rattle.view.proofs.Window.{same_orders, in_units, corner_p_lem, unit_pos}

-- ---- which columns are the window's
-- they are columns of the panel, in order
pub columns_in : (depth rotation flag : ℕ) (v : ScreenValues) (width q : ℕ)
    → let c = window_columns depth rotation flag v width q in (c.from ≤ c.to) × (c.to ≤ width)
unfolding window_columns
columns_in depth rotation flag v width q = by (meets_window rotation flag (per_dword depth) v.y q) _ _
  where
    by : (t : Bool) (a b : ℕ) → let c : Columns = cond t (record { from = min width a; to = max (min width a) (min width b) }) (record { from = 0; to = 0 }) in (c.from ≤ c.to) × (c.to ≤ width)
    by true a b = (omega arith, omega arith)
    by false a b = (omega arith, omega arith)

-- columns between two edges of a register that counts n of them as one
edges_are : (n first last width p : ℕ) → 0 < n → p < width
    → (leb first (p / n) && leb (p / n) last) ≡ (leb (min width (first * n)) p && ltb p (max (min width (first * n)) (min width ((last + 1) * n))))
edges_are n first last width p pos h =
    same_orders first (p / n) (p / n) last (min width (first * n)) p (suc p) (max (min width (first * n)) (min width ((last + 1) * n)))
    (λ e.
    let lo : first * n ≤ p = (le-div_iff_mul-le pos).0 e.0 in
    let hi : p < (last + 1) * n = (div-lt_iff_lt-mul pos).0 (omega (arith, e.1)) in
    (omega (arith, lo), omega (arith, hi)))
    (λ e.
    let lo : first * n ≤ p = omega (arith, e.0) in
    let hi : p < (last + 1) * n = omega (arith, e.0, e.1) in
    ((le-div_iff_mul-le pos).1 lo, omega (arith, (div-lt_iff_lt-mul pos).1 hi)))

-- the line's test and the column's
both_tests : (f a b : Bool) (c : Bool) → (f && b ≡ true → a ≡ c) → (f && b ≡ false → false ≡ c) → (f && (a && b)) ≡ c
both_tests true true true c g h = g refl
both_tests true true false c g h = h refl
both_tests true false true c g h = g refl
both_tests true false false c g h = h refl
both_tests false a b c g h = h refl

none : (p : ℕ) → false ≡ (leb 0 p && ltb p 0)
none p = rw (le-ltb p 0 (omega arith)) (either (leb 0 p))
  where
    either : (t : Bool) → false ≡ (t && false)
    either true = refl
    either false = refl

-- a column of the panel is the window's exactly between the two
pub windows_between : (depth rotation flag : ℕ) (v : ScreenValues) (width q p : ℕ) → is_depth depth ≡ true → p < width
    → let c = window_columns depth rotation flag v width q in is_windows depth rotation flag v p q ≡ (leb c.from p && ltb p c.to)
unfolding window_columns
windows_between depth rotation flag v width q p deep h =
    let k = per_dword depth in
    let n = unit_x rotation k in
    let line : between v.y (q / unit_y rotation k) ≡ between v.y (cond (quarter rotation) (q / k) q) = ap (between v.y) (in_lines (quarter rotation) k) in
    ap (λ (t : Bool). eqb flag 1 && t) (in_units rotation k v.x v.y p q ∙ ap (λ (t : Bool). between v.x (p / n) && t) line)
    ∙ both_tests (eqb flag 1) (between v.x (p / n)) (between v.y (cond (quarter rotation) (q / k) q)) _
    (λ e. edges_are n (start_edge v.x) (end_edge v.x) width p (unit_pos (quarter rotation) 1 k (omega arith) (per_dword_pos depth deep)) h ∙ rw e refl)
    (λ e. rw e (none p))
  where
    in_lines : (t : Bool) (k : ℕ) → q / cond t k 1 ≡ cond t (q / k) q
    in_lines true k = refl
    in_lines false k = div-one q

-- ---- how far the walk comes
module _ (k : ℕ) (o : Origin) (p q : ℕ) (f : OriginFits o) (hp : p < 4294967296) (hq : q < 4294967296) where
  lines : q * o.offset ≤ 4393751542785
  lines = mul-le-mul {n₂ = 4294967295} {m₂ = 1023} (le-pred_of_lt hq) (le-pred_of_lt f.offset)

  columns : p * o.offset ≤ 4393751542785
  columns = mul-le-mul {n₂ = 4294967295} {m₂ = 1023} (le-pred_of_lt hp) (le-pred_of_lt f.offset)

  walk_bound : (r : ℕ) → r < 4 → ((walk r k o p q).up ≤ 4398046576640) × ((walk r k o p q).down ≤ 4398046576640)
  unfolding walk
  walk_bound zero h = (omega (arith, lines, f.start, div-le_self p k), omega arith)
  walk_bound (suc zero) h = (omega (arith, columns, f.start), omega (arith, div-le_self q k))
  walk_bound (suc (suc zero)) h = (omega (arith, f.start), omega (arith, lines, div-le_self p k))
  walk_bound (suc (suc (suc zero))) h = (omega (arith, f.start, div-le_self q k), omega (arith, columns))
  walk_bound (suc (suc (suc (suc r)))) h = absurd (omega arith)

-- where the chip looks, by which side of the window's edges the point lies on
module _ (depth r flag : ℕ) (v : ScreenValues) (p q : ℕ) where
  abbrev k : ℕ
  k = per_dword depth

  place_in : is_windows depth r flag v p q ≡ true → place_of depth r flag v p q ≡ walk r k v.window (p - corner_p r k v.x) (q - corner_q r k v.y)
  unfolding place_of
  place_in e = rw e refl

  place_out : is_windows depth r flag v p q ≡ false → place_of depth r flag v p q ≡ walk r k v.main p q
  unfolding place_of
  place_out e = rw e refl

  -- the window's walk counts from no later column
  corner_before : is_windows depth r flag v p q ≡ true → is_depth depth ≡ true → corner_p r k v.x ≤ p
  corner_before e deep =
      let n = unit_x r k in
      let column : between v.x (p / n) ≡ true = and_left _ _ (sym (in_units r k v.x v.y p q) ∙ and_right (eqb flag 1) _ e) in
      let first : start_edge v.x ≤ p / n = leb-true _ _ (and_left _ _ column) in
      rw (corner_p_lem r k v.x) ((le-div_iff_mul-le (unit_pos (quarter r) 1 k (omega arith) (per_dword_pos depth deep))).0 first)

  pub place_bound : is_depth depth ≡ true → r < 4 → values_fit v ≡ true → p < 4294967296 → q < 4294967296
      → let w = place_of depth r flag v p q in (w.up ≤ 4398046576640) × ((w.down ≤ 4398046576640) × (w.pixel < 32))
  place_bound deep h fit hp hq =
      let t = by (is_windows depth r flag v p q) refl in
      (t.0, (t.1, omega (arith, low_place depth r flag v p q (per_dword_pos depth deep) h, div-le_self 32 depth)))
    where
      by : (t : Bool) → is_windows depth r flag v p q ≡ t → ((place_of depth r flag v p q).up ≤ 4398046576640) × ((place_of depth r flag v p q).down ≤ 4398046576640)
      by true e = rw (place_in e) (walk_bound k v.window _ _ (fields_say v fit).window (omega arith) (omega arith) r h)
      by false e = rw (place_out e) (walk_bound k v.main p q (fields_say v fit).main hp hq r h)

-- ---- the walk by steps
-- from an image's start, on or back by a pixel or by a line: without a difference
abbrev Comes : ℕ → ℕ → ℕ → Place → Place → ℕ → Type 0
Comes r d offset from to j =
    let step = cond (quarter r) (32 * offset) d in
    cond (ltb 1 r) (32 * from.up + d * from.pixel) (32 * from.up + d * from.pixel + j * step) + 32 * to.down
    ≡ cond (ltb 1 r) (32 * from.down + j * step) (32 * from.down) + (32 * to.up + d * to.pixel)

walk_comes : (k d : ℕ) → k * d ≡ 32 → (r : ℕ) (o : Origin) (p q j : ℕ) → r < 4 → Comes r d o.offset (walk r k o p q) (walk r k o (p + j) q) j
unfolding walk
walk_comes k d kd zero o p q j h = omega (arith, split k d kd p, split k d kd (p + j))
walk_comes k d kd (suc zero) o p q j h = omega arith
walk_comes k d kd (suc (suc zero)) o p q j h = omega (arith, split k d kd p, split k d kd (p + j), back k d kd p, back k d kd (p + j))
walk_comes k d kd (suc (suc (suc zero))) o p q j h = omega arith
walk_comes k d kd (suc (suc (suc (suc r)))) o p q j h = absurd (omega arith)

-- after j steps from column a the walk has come to column a + j, on the same side of the window's edges
pub steps_come : (depth rotation flag : ℕ) (v : ScreenValues) (a q j : ℕ) → is_depth depth ≡ true → rotation < 4
    → is_windows depth rotation flag v (a + j) q ≡ is_windows depth rotation flag v a q
    → let s = steps_from depth rotation flag v a q in
    let w = place_of depth rotation flag v (a + j) q in
    ahead_after s j + 32 * w.down ≡ behind_after s j + (32 * w.up + depth * w.pixel)
unfolding steps_from steps_at
steps_come depth r flag v a q j deep h side = by (is_windows depth r flag v a q) refl
  where
    -- column a + j of the window, counted from its corner
    counted : (c : ℕ) → c ≤ a → a - c + j ≡ a + j - c
    counted c le = omega arith

    by : (t : Bool) → is_windows depth r flag v a q ≡ t → Comes r depth (cond t v.window.offset v.main.offset) (place_of depth r flag v a q) (place_of depth r flag v (a + j) q) j
    by true e =
        let k = per_dword depth in
        let c = corner_p r k v.x in
        rw (place_in depth r flag v a q e, place_in depth r flag v (a + j) q (side ∙ e), ← counted c (corner_before depth r flag v a q e deep))
        (walk_comes k depth (full depth deep) r v.window (a - c) (q - corner_q r k v.y) j h)
    by false e = rw (place_out depth r flag v a q e, place_out depth r flag v (a + j) q (side ∙ e)) (walk_comes (per_dword depth) depth (full depth deep) r v.main a q j h)

-- ahead, behind and step of a walk by steps
pub steps_bound : (depth rotation flag : ℕ) (v : ScreenValues) (p q : ℕ) → is_depth depth ≡ true → rotation < 4 → values_fit v ≡ true
    → p < 4294967296 → q < 4294967296
    → let s = steps_from depth rotation flag v p q in (s.ahead ≤ 281474976710656) × ((s.behind ≤ 281474976710656) × (s.step ≤ 32768))
unfolding steps_from steps_at
steps_bound depth r flag v p q deep h fit hp hq =
    let w = place_bound depth r flag v p q deep h fit hp hq in
    let bits = mul-le-mul {n₂ = 16} {m₂ = 31} (depth_le depth deep) (le-pred_of_lt w.1.1) in
    (omega (arith, w.0, bits), (omega (arith, w.1.0), step (quarter r) (is_windows depth r flag v p q)))
  where
    step : (t u : Bool) → cond t (32 * cond u v.window.offset v.main.offset) depth ≤ 32768
    step true true = omega (arith, (fields_say v fit).window.offset)
    step true false = omega (arith, (fields_say v fit).main.offset)
    step false u = omega (arith, depth_le depth deep)
