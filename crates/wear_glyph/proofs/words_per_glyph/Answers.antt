use mathlib.Core.Path.{sym}
use Rattle.wear.proofs.Words.{words_narrow, words_wide}
use Rattle.wear_glyph.proofs.words_per_glyph.Goals as goal

pub returns-then-a-eq8 : goal.returns-then-a-eq8
returns-then-a-eq8 c = sym (words_narrow _ c.if-a-eq8.true)

pub returns-else-a-eq8 : goal.returns-else-a-eq8
returns-else-a-eq8 c = sym (words_wide _ c.if-a-eq8.false)
