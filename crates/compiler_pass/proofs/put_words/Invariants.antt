use Rattle.compiler.specs.Stream.{data_records}
use Rattle.compiler.proofs.Puts.{Putting}
use Rattle.compiler_pass.proofs.put_words.Given as goal

abbrev pub invariant-loop-word : goal.invariant-loop-word
invariant-loop-word l = Putting (data_records l.words) l.at l.initial.buffer l.buffer l.word-index l.to
