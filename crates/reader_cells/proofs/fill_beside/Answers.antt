use native.Mathlib.Omega.{arith}
use lib.ListN.{length}
use Rattle.reader_cells.proofs.Loop.{same_depth, same_line, sixteen}
use Rattle.reader_cells.proofs.fill_beside.Goals as goal

pub fill_cells-requires-in_default : goal.fill_cells-requires-in_default
fill_cells-requires-in_default c = same_depth _ _ _ _ _ _ (sixteen c.args.depth c.requires.deep (λ e. omega (arith, e)) (λ e. omega (arith, e)) (λ e. omega (arith, e)) (λ e. omega (arith, e))) c.requires

pub returns-in_default : goal.returns-in_default
returns-in_default c = let a = c.args in same_line a.depth _ a.memory.now a.back a.at (length a.line.now) _ (sixteen a.depth c.requires.deep (λ e. omega (arith, e)) (λ e. omega (arith, e)) (λ e. omega (arith, e)) (λ e. omega (arith, e))) c.fill_cells-in_default.ensures
