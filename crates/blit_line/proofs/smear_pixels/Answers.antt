use mathlib.Core.Path.{◌∙◌}
use native.Mathlib.Numerals.{add-one}
use Rattle.blit.proofs.Worker.{work_none, work_more}
use Rattle.blit_line.proofs.smear_pixels.Goals as goal

pub loop-n-init : goal.loop-n-init
loop-n-init c = work_none _ _ _ _ _ _ _

pub loop-n-preserved : goal.loop-n-preserved
loop-n-preserved c = let l = c.loop-n in
    let a = c.args in
    rw add-one
    (c.combine_pixel.ensures
    ∙ work_more a.down a.bytes a.width a.mix a.source.now a.lag l.n _ l.line _ _
    l.invariant c.rank_of-k.ensures.0 c.lagged_pixel-v.ensures)
