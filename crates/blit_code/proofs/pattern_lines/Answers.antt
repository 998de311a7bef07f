use native.Mathlib.Numerals.{add-one}
use native.Mathlib.Omega.{arith}
use borrow.Author.Rules.{rules}
use Rattle.blit_code.proofs.Lines.{job_in, lines_end, lines_more, lines_none, tiled_fill}
use Rattle.blit_code.proofs.pattern_lines.Goals as goal

pub loop-j-init : goal.loop-j-init
loop-j-init c = lines_none c.args.job _ _

pub pattern_line-requires : goal.pattern_line-requires
pattern_line-requires c = let p = c.requires in
    (job_in _ _ _ c.loop-j.auto.memory p.0, omega arith, p.1, search rules)

pub loop-j-preserved : goal.loop-j-preserved
loop-j-preserved c = let l = c.loop-j in
    let b = c.args.job in
    rw add-one (lines_more b _ l.j _ l.memory _ l.invariant c.pattern_line.ensures)

pub returns : goal.returns
returns c = let a = c.args in
    let p = c.requires in
    tiled_fill a.job a.rows a.x a.y _ _ a.memory.now _ p.0.few_bytes p.0.width (omega arith) c.tile_lines.ensures
    (lines_end a.job _ _ _ _ c.loop-j.invariant (omega arith))
