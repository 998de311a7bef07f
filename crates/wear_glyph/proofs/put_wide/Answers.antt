use mathlib.Core.Path.{refl, sym}
use native.Mathlib.Omega.{arith}
use Rattle.wear.proofs.Words.{words_wide}
use Rattle.wear.proofs.Rows.{glyph_start, pixel_turn, glyph_end}
use Rattle.wear_glyph.proofs.put_wide.Goals as goal

pub loop-k-init : goal.loop-k-init
loop-k-init c = λ a d e. glyph_start a _ _ 64 _

pub bounds-words-at : goal.bounds-words-at
bounds-words-at c = omega (arith, (c.loop-k.invariant c.args.a c.requires.fact refl).same, c.requires.at_in_bounds, c.loop-k-test.true)

pub loop-k-preserved : goal.loop-k-preserved
loop-k-preserved c = λ a d e. pixel_turn a _ _ _ c.loop-k.words c.loop-k.k c.from-row.result _ d e c.from-row.ensures (c.loop-k.invariant a d e) c.loop-k-test.true

pub shape_of-words : goal.shape_of-words
shape_of-words c = (c.loop-k.invariant c.args.a c.requires.fact refl).same

pub returns : goal.returns
returns c = glyph_end _ _ _ _ c.loop-k.words 64 _ (c.loop-k.invariant c.args.a c.requires.fact refl) c.loop-k-test.false (sym (words_wide _ c.requires.fact))
