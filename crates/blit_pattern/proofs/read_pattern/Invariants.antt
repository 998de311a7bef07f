use mathlib.Core.List.{[]}
use mathlib.Core.Path.{◌≡◌}
use Prim.Native.Nat.{ℕ, ◌+◌, ◌*◌, ◌<◌}
use lib.ListN.{length, get_or}
use Rattle.blit_pattern.specs.Pattern.{row_at}
use Rattle.blit_pattern.proofs.read_pattern.Given as goal

abbrev pub invariant-loop-v : goal.invariant-loop-v
invariant-loop-v l = (length l.rows ≡ 8) × ((k : ℕ) → k < l.v → get_or l.rows k [] ≡ row_at l.bytes l.memory (l.at + k * (8 * l.bytes)))
