-- The loop: after i turns the first i pixels are drawn.
use mathlib.Core.Path.{◌≡◌}
use Rattle.chip_words.proofs.Clipped.{word_pixels}
use Rattle.chip_words.proofs.write_clipped.Given as goal

abbrev pub invariant-loop-i : goal.invariant-loop-i
invariant-loop-i l = l.memory ≡ word_pixels l.bytes l.mix l.at l.word l.i l.initial.memory
