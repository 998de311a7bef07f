use Prim.Native.Nat.{◌+◌}
use Rattle.script.proofs.Laws.{four_more}
use native.Mathlib.Omega.{arith}
use mathlib.Core.Path.{sym}
use borrow.Author.Tests.{lt-leb}
use Rattle.script_code.proofs.has_four.Goals as goal

pub returns-then-n-lt4 : goal.returns-then-n-lt4
returns-then-n-lt4 c = let a = c.args in sym (lt-leb (a.at + 4) a.n (omega arith))

pub returns : goal.returns
returns c = four_more _ _ c.if-n-lt4.false
