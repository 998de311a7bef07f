use Rattle.wear.proofs.Commands.{Written}
use Rattle.wear_list.proofs.put_writes.Given as goal

abbrev pub invariant-loop-i : goal.invariant-loop-i
invariant-loop-i l = Written l.a l.digits l.initial.list l.list l.at l.i
