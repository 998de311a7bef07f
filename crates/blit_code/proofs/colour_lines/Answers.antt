use native.Mathlib.Numerals.{add-one}
use native.Mathlib.Omega.{arith}
use Rattle.blit.specs.Blit.{Source, given}
use Rattle.blit_code.proofs.Lines.{lines_end, lines_more, lines_none}
use Rattle.blit_code.proofs.colour_lines.Goals as goal

pub loop-j-init : goal.loop-j-init
loop-j-init c = lines_none c.args.job _ _

pub loop-j-preserved : goal.loop-j-preserved
loop-j-preserved c = let l = c.loop-j in
    let a = c.args in
    let b = a.job in
    let s : Source = given (λ i k. a.colour) in
    rw add-one (lines_more b s l.j _ l.memory _ l.invariant c.colour_line.ensures)

pub returns : goal.returns
returns c = lines_end c.args.job _ _ _ _ c.loop-j.invariant (omega arith)
