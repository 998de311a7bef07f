use Prim.Native.Nat.{ℕ, ◌+◌, ◌-◌, ◌*◌, ◌/◌, ◌≤◌, ◌<◌}
use mathlib.Core.Path.{◌≡◌, ap, ◌∙◌}
use mathlib.Core.List.{List}
use native.Mathlib.Omega.{arith}
use lib.ListN.{length, take, drop}
use Rattle.record.specs.Lists.{tabulate}
use Rattle.record.proofs.Filled.{fill_end}
use Rattle.reader.specs.Along.{cell_pixels, cell_colour}
use Rattle.reader_cells.proofs.Loop.{cell_in, cells_all, part_length, cell_more}
use Rattle.reader_cells.proofs.fill_cells.Goals as goal

-- the next cell is one of the line's
next : (d p i n : ℕ) → p ≡ cell_pixels d → i < n / p → i * p + p ≤ n
next d p i n e h = cell_in p i n (rw e (omega arith)) h

-- the part that is lent has a cell's pixels
sized : (d p i n : ℕ) (l : List ℕ) → p ≡ cell_pixels d → i < n / p → length l ≡ n → length (take (i * p + p - i * p) (drop (i * p) l)) ≡ p
sized d p i n l e h s = part_length l (i * p) (i * p + p) (omega arith) (omega (arith, next d p i n e h, s)) ∙ omega arith

pub loop-i-preserved : goal.loop-i-preserved
loop-i-preserved g c = let l = c.loop-i in
    let a = c.args in
    let p = c.cell_pixels-pixels.result in
    cell_more g.row.DEPTH a.memory.now a.back a.at p l.i c.cell_pixels-pixels.ensures a.line.now l.line _ _
    (rw c.cell_bytes-bytes.ensures at c.away-a.ensures) (next g.row.DEPTH p l.i (length a.line.now) c.cell_pixels-pixels.ensures c.loop-i-test.true) l.invariant (c.fill_cell.ensures ∙ ap (λ (n : ℕ). tabulate n (cell_colour g.row.DEPTH a.memory.now a.back c.away-a.result)) (sized g.row.DEPTH p l.i (length a.line.now) l.line c.cell_pixels-pixels.ensures c.loop-i-test.true l.auto.line))

pub returns : goal.returns
returns g c = let l = c.loop-i in
    let p = c.cell_pixels-pixels.result in
    fill_end _ _ _ _ (omega (arith, l.auto.line, cells_all p l.i (length c.args.line.now) (rw c.cell_pixels-pixels.ensures c.requires.whole) c.loop-i-test.false)) l.invariant
