use Prim.Native.Nat.{ℕ, ◌-◌, ◌<◌}
use mathlib.Core.Path.{◌≡◌, subst}
use native.Mathlib.Omega.{arith}
use mathlib.Core.Bool.{Bool, cond}
use Rattle.record.proofs.Filled.{fill_more, fill_end}
use Rattle.reader.specs.Along.{cell_pixels}
use Rattle.reader.proofs.Cells.{place_below, colour_of, bit_in}
use Rattle.reader_cells.proofs.fill_cell.Goals as goal

-- the pixel is one of the cell's
placed : (depth : ℕ) (back : Bool) (n t i : ℕ) → n ≡ cell_pixels depth → t < n → i ≡ cond back (n - 1 - t) t → i < cell_pixels depth
placed depth back n t i e h p = subst (λ (n : ℕ). i < n) e (rw p (place_below back n t h))

pub stored_pixel-requires : goal.stored_pixel-requires
stored_pixel-requires c =
    let p = c.requires in
    let a = c.args in
    (p.0, p.1, omega arith, (bit_in a.depth _ p.0 (placed a.depth a.back _ c.loop-t.t _ p.2 c.loop-t-test.true c.cell_place-i.ensures)).1)

pub loop-t-preserved : goal.loop-t-preserved
loop-t-preserved c =
    let a = c.args in
    let l = c.loop-t in
    fill_more _ _ _ l.t _ (omega (arith, l.auto.cell, c.loop-t-test.true)) l.invariant
    (colour_of a.depth a.memory.now a.back a.at _ l.t _ _ c.requires.2 c.cell_place-i.ensures c.stored_pixel.ensures)

pub returns : goal.returns
returns c = fill_end _ _ _ _ (omega (arith, c.loop-t.auto.cell, c.loop-t-test.false)) c.loop-t.invariant
