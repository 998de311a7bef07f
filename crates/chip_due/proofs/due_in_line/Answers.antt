use mathlib.Core.Path.{sym, ◌∙◌}
use native.Mathlib.Omega.{arith}
use Rattle.chip.proofs.Dues.{after_line_words, line_words_fit}
use Rattle.chip_due.proofs.due_in_line.Goals as goal

pub overflow_cast-last : goal.overflow_cast-last
overflow_cast-last c = let a = c.args in omega (arith, line_words_fit a.b a.n a.d c.requires.0 c.requires.1 (omega arith))

pub overflow_add-last : goal.overflow_add-last
overflow_add-last c = let a = c.args in omega (arith, line_words_fit a.b a.n a.d c.requires.0 c.requires.1 (omega arith))

pub returns : goal.returns
returns c = let s = c in let a = s.args in c.due_after.ensures ∙ sym (after_line_words a.b a.n a.d s.requires.0 s.requires.1)
