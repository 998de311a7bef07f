use Rattle.form.proofs.Loops.{Putting}
use Rattle.form_code.proofs.put_list.Given as goal

abbrev pub invariant-loop-i : goal.invariant-loop-i
invariant-loop-i l = Putting l.size l.step l.list l.initial.target l.target l.count l.i
