use Prim.Native.Nat.{◌+◌, ◌*◌, ◌≤◌}
use mathlib.Core.Path.{◌≡◌}
use lib.ListN.{drop}
use Rattle.wear.specs.Limits.{command_count}
use Rattle.wear_list.proofs.column_commands.Given as goal

abbrev pub invariant-loop-height : goal.invariant-loop-height
invariant-loop-height l = (l.n ≤ 2 * l.height-index) × (command_count l.heights ≡ l.n + command_count (drop l.height-index l.heights))
