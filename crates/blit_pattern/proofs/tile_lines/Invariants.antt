use mathlib.Core.Path.{◌≡◌}
use Rattle.blit_pattern.specs.Pattern.{tiled_lines}
use Rattle.blit_pattern.proofs.tile_lines.Given as goal

abbrev pub invariant-loop-k : goal.invariant-loop-k
invariant-loop-k l = l.lines ≡ tiled_lines l.bytes l.rows l.x l.y l.width l.k l.initial.lines
