use Rattle.chip.specs.Start.{write_of}
use Rattle.chip_words.proofs.Gathered.{Drawing}
use Rattle.chip_words.proofs.write_words.Given as goal

abbrev pub invariant-loop-k : goal.invariant-loop-k
invariant-loop-k l = Drawing l.stream l.i l.n (write_of l.b (λ x y. 0)) l.d.line l.d.word l.initial.memory l.k l.memory
