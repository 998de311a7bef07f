use Rattle.blit_code.proofs.Lines.{zero_down}
use Rattle.blit_code.proofs.low_end.Goals as goal

pub overflow_sub-result : goal.overflow_sub-result
overflow_sub-result c = let a = c.args in zero_down a.down a.bytes a.line a.width a.at a.j c.if-down.true c.requires.4
