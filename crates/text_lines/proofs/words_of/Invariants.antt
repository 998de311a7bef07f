use Prim.Native.Nat.{◌≤◌}
use lib.ListN.{length}
use Rattle.text.proofs.Joined.{Filling}
use Rattle.text.specs.Lines.{word_of}
use Rattle.text_lines.proofs.words_of.Given as goal

abbrev pub invariant-loop-i : goal.invariant-loop-i
invariant-loop-i l = (l.n ≤ length l.initial.words) × Filling (word_of l.bytes) l.n l.initial.words l.words l.i
