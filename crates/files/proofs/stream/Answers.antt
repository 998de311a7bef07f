use Rattle.std.proofs.Common.{ℕ}
use mathlib.Core.Path.{sym}
use lib.ListN.{length-replicate}
use Rattle.files.proofs.stream.Goals as goal

pub returns-clause-size : goal.returns-clause-size
returns-clause-size c = sym (length-replicate {0} {A = ℕ} 2097152 0)
