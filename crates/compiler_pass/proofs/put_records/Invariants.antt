use lib.ListN.{length}
use Rattle.compiler.specs.Stream.{records_with}
use Rattle.compiler.proofs.Puts.{Putting}
use Rattle.compiler_pass.proofs.put_records.Given as goal

abbrev pub invariant-loop-number : goal.invariant-loop-number
invariant-loop-number l = Putting (records_with l.numbers l.values) l.at l.initial.buffer l.buffer (length l.yielded) l.to
