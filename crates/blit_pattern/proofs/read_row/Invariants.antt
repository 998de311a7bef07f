use mathlib.Core.Path.{◌≡◌}
use Prim.Native.Nat.{ℕ, ◌+◌, ◌*◌, ◌<◌}
use lib.ListN.{length, get_or}
use Rattle.pixel.specs.Pixel.{get_pixel}
use Rattle.blit_pattern.proofs.read_row.Given as goal

abbrev pub invariant-loop-u : goal.invariant-loop-u
invariant-loop-u l = (length l.row ≡ 8) × ((k : ℕ) → k < l.u → get_or l.row k 0 ≡ get_pixel l.bytes l.memory (l.at + k * l.bytes))
