use Rattle.wear.proofs.Commands.{Columned}
use Rattle.wear_list.proofs.put_columns.Given as goal

abbrev pub invariant-loop-c : goal.invariant-loop-c
invariant-loop-c l = Columned l.a l.heights l.initial.list l.list l.at l.c
