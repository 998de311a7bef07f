use native.Mathlib.Nat.{mul-zero}
use native.Mathlib.Omega.{arith}
use mathlib.Core.Path.{refl}
use lib.ListN.{length}
use Rattle.text.proofs.Joined.{fill_start}
use Rattle.picture.proofs.Pixels.{size_range, all_room, next_room, pixel_turn, pixels_end}
use Rattle.picture_code.proofs.put_colours.Goals as goal

pub nonzero_div-line : goal.nonzero_div-line
nonzero_div-line c = omega (arith, c.pixel_size-size.ensures, (size_range c.args.depth).0)

pub loop-i-init : goal.loop-i-init
loop-i-init c = (c.pixel_size-size.ensures, (all_room _ _ _ _ c.min-n.ensures, fill_start _ _ _))

pub loop-i-preserved : goal.loop-i-preserved
loop-i-preserved c = let a = c.args in
    let g = c.loop-i.invariant in
    (g.0, (g.1.0, pixel_turn _ a.colours.now _ _ _ g.0 _ _ _ _ _ refl g.1.1 c.loop-i-test.true c.colour_at.ensures c.put_colour.ensures))
