use Prim.Native.Nat.{ℕ}
use native.Mathlib.Numerals.{add-one}
use native.Mathlib.Omega.{arith}
use borrow.Author.Rules.{rules}
use lib.ListN.{length-replicate}
use Rattle.blit.specs.Blit.{Source, memory as in_memory}
use Rattle.blit_code.proofs.Lines.{lines_end, lines_more, lines_none}
use Rattle.blit_code.proofs.move_lines.Goals as goal

pub loop-j-init : goal.loop-j-init
loop-j-init c = (lines_none c.args.job _ _, length-replicate {0} {A = ℕ} 2048 0)

pub loop-j-preserved : goal.loop-j-preserved
loop-j-preserved c = let l = c.loop-j in
    let a = c.args in
    let b = a.job in
    let s : Source = in_memory a.from in
    (rw add-one (lines_more b s l.j _ l.memory _ l.invariant.0 c.move_line.ensures.memory_after), search rules)

pub returns : goal.returns
returns c = lines_end c.args.job _ _ _ _ c.loop-j.invariant.0 (omega arith)
