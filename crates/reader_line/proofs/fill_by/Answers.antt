use native.Mathlib.Omega.{arith}
use Rattle.record.proofs.Filled.{fill_end}
use Rattle.reader_line.proofs.fill_by.Goals as goal

pub returns : goal.returns
returns c = fill_end _ _ _ _ (omega (arith, c.loop-colour.invariant.1.same)) c.loop-colour.invariant.1
