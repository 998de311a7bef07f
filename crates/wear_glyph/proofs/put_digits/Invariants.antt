use Rattle.wear.proofs.Words.{Digiting}
use Rattle.wear_glyph.proofs.put_digits.Given as goal

abbrev pub invariant-loop-i : goal.invariant-loop-i
invariant-loop-i l = Digiting l.a l.site l.factory l.digits l.n l.initial.words l.words l.i
