use mathlib.Core.Path.{◌≡◌}
use lib.ListN.{drop}
use Rattle.wear.specs.Strip.{columns, all_in_reach}
use Rattle.wear_list.proofs.columns_reach.Given as goal

abbrev pub invariant-loop-c : goal.invariant-loop-c
invariant-loop-c l = all_in_reach (columns l.a 0 l.heights) ≡ all_in_reach (columns l.a l.c (drop l.c l.heights))
