use mathlib.Core.Path.{refl}
use Rattle.older.specs.Bytes.{older_bytes}
use Rattle.older_code.proofs.bytes_of.Goals as goal

pub returns : goal.returns
unfolding older_bytes
returns c = refl
