use mathlib.Core.Path.{◌∙◌}
use Prim.Native.Nat.{◌≤◌, max}
use native.Mathlib.Nat.{mul-le-mul}
use native.Mathlib.Omega.{arith}
use Rattle.blit_pattern.proofs.Tiles.{row_tiled}
use Rattle.blit_pattern.proofs.tile_pixels.Goals as goal

pub returns : goal.returns
returns g c = let a = c.args in
    let p = c.requires in
    let few : max 16 a.width ≤ 1024 = omega arith in
    c.repeat_pixels.ensures
    ∙ row_tiled g.row.BYTES a.row a.x a.width a.line.now _ (omega (arith, mul-le-mul few p.1)) c.first_pixels.ensures
