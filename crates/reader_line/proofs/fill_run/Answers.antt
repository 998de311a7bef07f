use Prim.Native.Nat.{ℕ, ◌+◌, ◌-◌, ◌*◌, ◌<◌, ◌≤◌}
use mathlib.Core.Path.{◌≡◌, sym, ◌∙◌}
use mathlib.Core.Bool.{Bool, true, false, cond}
use lib.Dec.{eqb}
use borrow.Author.Tests.{eqb-true, eqb-false}
use native.Mathlib.Omega.{arith}
use Rattle.view.specs.Steps.{steps_from, bits_after}
use Rattle.view.specs.declared.Steps.{Steps}
use Rattle.screen.specs.declared.ScreenValues.{ScreenValues}
use Rattle.reader.specs.declared.Display.{Display}
use Rattle.reader.specs.Along.{Walkable, OneSide, all_inside, Fillable}
use Rattle.reader.proofs.Along.{near, fillable, step_colours}
use Rattle.reader.proofs.Cells.{celled, cells_colours}
use Rattle.reader_line.proofs.Parts.{no_colours}
use Rattle.reader_line.proofs.fill_run.Goals as goal

-- the bits before the first pixel
start_by : (t : Bool) (ahead behind step : ℕ) → ahead - behind ≡ cond t ahead (ahead + 0 * step) - cond t (behind + 0 * step) behind
start_by true ahead behind step = omega arith
start_by false ahead behind step = omega arith

bits_start : (s : Steps) → s.ahead - s.behind ≡ bits_after s 0
bits_start s = start_by s.back s.ahead s.behind s.step

-- the columns can be read by steps
can_fill : (d : Display) (v : ScreenValues) (p q n m : ℕ) (s : Steps) → Walkable d v → OneSide d v q p n → n ≤ 4294967296 → all_inside m d v q p n ≡ true
    → 0 < n → p < 4294967296 → q < 4294967296 → s ≡ steps_from d.depth d.rotation d.flag v p q → Fillable d.depth m s n
can_fill d v p q n m s walk one few all some pw qw e = fillable d v q p n walk one s e m all some few (near d v p q s walk pw qw e)

-- there is a column
some : (n : ℕ) (r : Bool) → r ≡ eqb n 0 → r ≡ false → 0 < n
some n r e h = omega (arith, eqb-false n 0 (sym e ∙ h))

pub returns-then-is_empty : goal.returns-then-is_empty
returns-then-is_empty c = no_colours _ _ _ _ _ _ (eqb-true _ 0 (sym c.is_empty.ensures ∙ c.if-is_empty.true))

pub fill_beside-requires : goal.fill_beside-requires
fill_beside-requires c = rw (c.minus-bits.ensures ∙ bits_start c.steps_from-s.result) (celled _ _ _ _ (can_fill _ _ _ _ _ _ _ c.requires.0 c.requires.1.0 c.requires.1.1.0 c.requires.1.1.1 (some _ _ c.is_empty.ensures c.if-is_empty.false) c.ranges.from.fits c.ranges.q.fits c.steps_from-s.ensures) (sym c.is_beside.ensures ∙ c.if-is_beside.true))

pub returns-then-is_beside : goal.returns-then-is_beside
returns-then-is_beside c = let a = c.args in
    let p = c.requires in
    rw (c.minus-bits.ensures ∙ bits_start c.steps_from-s.result) at c.fill_beside.ensures
    ∙ cells_colours a.d.depth _ c.steps_from-s.result _ (can_fill _ _ _ _ _ _ _ c.requires.0 c.requires.1.0 c.requires.1.1.0 c.requires.1.1.1 (some _ _ c.is_empty.ensures c.if-is_empty.false) c.ranges.from.fits c.ranges.q.fits c.steps_from-s.ensures) (sym c.is_beside.ensures ∙ c.if-is_beside.true) a.memory.now
    ∙ step_colours a.d a.values a.q a.from _ p.0 p.1.0 _ c.steps_from-s.ensures _ p.1.1.1 a.memory.now

pub fill_by-requires : goal.fill_by-requires
fill_by-requires c = can_fill _ _ _ _ _ _ _ c.requires.0 c.requires.1.0 c.requires.1.1.0 c.requires.1.1.1 (some _ _ c.is_empty.ensures c.if-is_empty.false) c.ranges.from.fits c.ranges.q.fits c.steps_from-s.ensures

pub returns : goal.returns
returns c = let a = c.args in
    let p = c.requires in
    c.fill_by.ensures
    ∙ step_colours a.d a.values a.q a.from _ p.0 p.1.0 _ c.steps_from-s.ensures _ p.1.1.1 a.memory.now
