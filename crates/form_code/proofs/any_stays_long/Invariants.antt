use Rattle.command.specs.Task.{long_form}
use Rattle.form.proofs.Loops.{Asking}
use Rattle.form_code.proofs.any_stays_long.Given as goal

abbrev pub invariant-loop-i : goal.invariant-loop-i
invariant-loop-i l = Asking long_form l.list l.count l.any l.i
