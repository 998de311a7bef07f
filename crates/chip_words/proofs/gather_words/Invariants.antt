use Rattle.chip_words.proofs.Gathered.{Gathering}
use Rattle.chip_words.proofs.gather_words.Given as goal

abbrev pub invariant-loop-k : goal.invariant-loop-k
invariant-loop-k l = Gathering l.stream l.i l.n l.initial.line l.k l.line
