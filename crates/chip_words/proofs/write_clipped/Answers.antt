use mathlib.Core.Path.{◌∙◌}
use Rattle.chip_words.proofs.Clipped.{none_drawn, one_more}
use Rattle.chip_words.proofs.write_clipped.Goals as goal

pub loop-i-init : goal.loop-i-init
loop-i-init c = none_drawn c.args.bytes c.args.mix c.args.at c.args.word c.args.memory.now

pub loop-i-preserved : goal.loop-i-preserved
loop-i-preserved c =
    c.draw_clipped.ensures ∙ one_more c.args.bytes c.args.mix c.args.at c.args.word c.loop-i.i c.word_pixel-pixel.result c.args.memory.now c.loop-i.memory c.loop-i.invariant c.word_pixel-pixel.ensures
