use mathlib.Core.Path.{refl, ◌∙◌}
use Prim.Native.Nat.{◌+◌, ◌%◌}
use native.Mathlib.Numerals.{add-one}
use lib.ListN.{get_or}
use Rattle.blit.proofs.Worker.{straight_none, straight_more}
use Rattle.blit_pattern.proofs.first_pixels.Goals as goal

pub loop-i-init : goal.loop-i-init
loop-i-init g c = straight_none _ _ _ _

pub loop-i-preserved : goal.loop-i-preserved
loop-i-preserved g c = let l = c.loop-i in
    let a = c.args in
    rw add-one (c.put_pixel.ensures ∙ straight_more g.row.BYTES (λ s d. s) (λ k. get_or a.row ((a.x + k) % 8) 0) l.i _ l.line _ l.invariant refl)
