use mathlib.Core.Path.{sym}
use native.Mathlib.Omega.{arith}
use Rattle.wear.proofs.Words.{words_narrow}
use Rattle.wear.proofs.Rows.{glyph_start, narrow_turn, glyph_end}
use Rattle.wear_glyph.proofs.put_narrow.Goals as goal

pub pairs-p-requires : goal.pairs-p-requires
pairs-p-requires c = record { bar_bound = c.requires.checked.bar c.requires.depth_value; background_bound = c.requires.checked.background c.requires.depth_value }

pub loop-j-init : goal.loop-j-init
loop-j-init c = λ a d e. glyph_start a _ _ 32 _

pub put_four-requires : goal.put_four-requires
put_four-requires c = omega (arith, (c.loop-j.invariant c.args.a c.requires.depth_value c.pairs-p.ensures).same, c.requires.at_in_bounds, c.loop-j-test.true)

pub loop-j-preserved : goal.loop-j-preserved
loop-j-preserved c = λ a d e. narrow_turn a _ _ _ c.loop-j.words c.loop-j.j c.from-row.result _ _ d e c.from-row.ensures (c.loop-j.invariant a d e) c.loop-j-test.true c.put_four.ensures

pub shape_of-words : goal.shape_of-words
shape_of-words c = (c.loop-j.invariant c.args.a c.requires.depth_value c.pairs-p.ensures).same

pub returns : goal.returns
returns c = glyph_end _ _ _ _ c.loop-j.words 32 _ (c.loop-j.invariant c.args.a c.requires.depth_value c.pairs-p.ensures) (omega (arith, c.loop-j-test.false)) (sym (words_narrow _ c.requires.depth_value))
