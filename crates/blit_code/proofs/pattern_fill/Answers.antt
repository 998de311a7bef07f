use borrow.Author.Rules.{rules}
use Rattle.blit_code.proofs.Lines.{of_pattern, rows_fill}
use Rattle.blit_code.proofs.pattern_fill.Goals as goal

pub read_pattern-rows-requires : goal.read_pattern-rows-requires
read_pattern-rows-requires c = let p = c.requires in
    (p.0.some_bytes, p.0.few_bytes, (of_pattern _ _ p.0 _ _ _ p.1).1)

pub returns-then-job-le8 : goal.returns-then-job-le8
returns-then-job-le8 c = let a = c.args in
    rows_fill a.job _ a.at a.x a.y a.memory.now _ (λ k. search rules) c.read_pattern-rows.ensures c.few_lines.ensures

pub returns-else-job-le8 : goal.returns-else-job-le8
returns-else-job-le8 c = let a = c.args in
    rows_fill a.job _ a.at a.x a.y a.memory.now _ (λ k. search rules) c.read_pattern-rows.ensures c.pattern_lines.ensures
