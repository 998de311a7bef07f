use mathlib.Core.Path.{◌∙◌}
use native.Mathlib.Omega.{arith}
use Rattle.blit_pattern.proofs.Tiles.{repeat_none, repeat_more}
use Rattle.blit_pattern.proofs.repeat_pixels.Goals as goal

pub loop-i-init : goal.loop-i-init
loop-i-init g c = (omega arith, repeat_none _ _)

pub loop-i-preserved : goal.loop-i-preserved
loop-i-preserved g c = let l = c.loop-i in
    (omega arith, c.put_pixel.ensures ∙ repeat_more g.row.BYTES l.i c.args.line.now l.line _ (omega arith) l.invariant.1 c.get_pixel-v.ensures)
