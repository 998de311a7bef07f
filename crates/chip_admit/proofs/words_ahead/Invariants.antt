use Rattle.chip.proofs.Words.{Found}
use Rattle.chip_admit.proofs.words_ahead.Given as goal

abbrev pub invariant-loop-n : goal.invariant-loop-n
invariant-loop-n l = Found l.stream l.i l.most l.n
