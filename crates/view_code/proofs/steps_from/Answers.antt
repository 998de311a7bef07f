use Prim.Native.Nat.{ℕ, ◌≤◌, ◌<◌, ◌-◌, ◌^◌}
use mathlib.Core.Path.{◌≡◌}
use mathlib.Core.Bool.{Bool, true, false, ◌&&◌}
use lib.Dec.{eqb}
use Rattle.pixel.specs.Depth.{is_depth, per_dword}
use Rattle.screen.specs.Fields.{values_fit}
use Rattle.screen.specs.declared.ScreenValues.{ScreenValues}
use native.Mathlib.Nat.{le-pred_of_lt}
use Rattle.pixel.proofs.Depth.{depth_le}
use Rattle.screen.proofs.Fits.{fields_say}
use Rattle.view.specs.Walk.{walk, in_window_by, corner_p, corner_q, place_of}
use Rattle.view.specs.Steps.{steps_from}
use Rattle.view.specs.declared.Place.{Place}
use Rattle.view.proofs.Stepping.{place_bound}
use Rattle.view_code.proofs.steps_from.Goals as goal

-- how far the place is that the walk comes to
bounds : (depth rotation flag : ℕ) (v : ScreenValues) (p q : ℕ) (w : Place) → is_depth depth ≡ true → rotation < 4 → values_fit v ≡ true → p < 2 ^ 32 → q < 2 ^ 32
    → w ≡ place_of depth rotation flag v p q
    → (w.up ≤ 4398046576640) × ((w.down ≤ 4398046576640) × (w.pixel < 32))
bounds depth rotation flag v p q w d r f pw qw e = rw e (place_bound depth rotation flag v p q d r f pw qw)

-- the walk comes to the place that the chip looks at
windows : (depth rotation flag : ℕ) (v : ScreenValues) (p q k : ℕ) (t : Bool) (x y cp cq : ℕ) (w : Place) → k ≡ per_dword depth
    → t ≡ (eqb flag 1 && in_window_by rotation k v.x v.y p q) → t ≡ true
    → cp ≡ corner_p rotation k v.x → cq ≡ corner_q rotation k v.y → x ≡ p - cp → y ≡ q - cq → w ≡ walk rotation k v.window x y
    → w ≡ place_of depth rotation flag v p q
unfolding place_of
windows depth rotation flag v p q k t x y cp cq w k' t' h cp' cq' x' y' w' = simp (simp (t', k') at h, w', x', y', cp', cq', k')

mains : (depth rotation flag : ℕ) (v : ScreenValues) (p q k : ℕ) (t : Bool) (w : Place) → k ≡ per_dword depth
    → t ≡ (eqb flag 1 && in_window_by rotation k v.x v.y p q) → t ≡ false → w ≡ walk rotation k v.main p q
    → w ≡ place_of depth rotation flag v p q
unfolding place_of
mains depth rotation flag v p q k t w k' t' h w' = simp (simp (t', k') at h, w', k')

pub walk_to-w-requires : goal.walk_to-w-requires
walk_to-w-requires c =
    let f = (fields_say c.args.values c.requires.2).window in
    (le-pred_of_lt f.start, le-pred_of_lt f.offset)

pub steps_at-requires : goal.steps_at-requires
steps_at-requires c =
    let a = c.args in
    let b = bounds a.depth a.rotation a.flag a.values a.p a.q c.walk_to-w.result c.requires.0 c.requires.1 c.requires.2 c.ranges.p.fits c.ranges.q.fits (windows c.args.depth c.args.rotation c.args.flag c.args.values c.args.p c.args.q _ _ _ _ _ _ _ c.per_dword-k.ensures c.in_window.ensures c.if-in_window.true c.corner_p.ensures c.corner_q.ensures c.minus-x.ensures c.minus-y.ensures c.walk_to-w.ensures) in
    (depth_le a.depth c.requires.0, (fields_say a.values c.requires.2).window.offset, b.0, b.1.0, b.1.1)

pub returns-then-in_window : goal.returns-then-in_window
unfolding steps_from
returns-then-in_window c =
    simp (simp (c.in_window.ensures, c.per_dword-k.ensures) at c.if-in_window.true, c.steps_at.ensures, windows c.args.depth c.args.rotation c.args.flag c.args.values c.args.p c.args.q _ _ _ _ _ _ _ c.per_dword-k.ensures c.in_window.ensures c.if-in_window.true c.corner_p.ensures c.corner_q.ensures c.minus-x.ensures c.minus-y.ensures c.walk_to-w.ensures)

pub walk_to-w-requires-2 : goal.walk_to-w-requires-2
walk_to-w-requires-2 c =
    let f = (fields_say c.args.values c.requires.2).main in
    (le-pred_of_lt f.start, le-pred_of_lt f.offset)

pub steps_at-requires-2 : goal.steps_at-requires-2
steps_at-requires-2 c =
    let a = c.args in
    let b = bounds a.depth a.rotation a.flag a.values a.p a.q c.walk_to-w-2.result c.requires.0 c.requires.1 c.requires.2 c.ranges.p.fits c.ranges.q.fits (mains c.args.depth c.args.rotation c.args.flag c.args.values c.args.p c.args.q _ _ _ c.per_dword-k.ensures c.in_window.ensures c.if-in_window.false c.walk_to-w-2.ensures) in
    (depth_le a.depth c.requires.0, (fields_say a.values c.requires.2).main.offset, b.0, b.1.0, b.1.1)

pub returns : goal.returns
unfolding steps_from
returns c =
    simp (simp (c.in_window.ensures, c.per_dword-k.ensures) at c.if-in_window.false, c.steps_at-2.ensures, mains c.args.depth c.args.rotation c.args.flag c.args.values c.args.p c.args.q _ _ _ c.per_dword-k.ensures c.in_window.ensures c.if-in_window.false c.walk_to-w-2.ensures)
