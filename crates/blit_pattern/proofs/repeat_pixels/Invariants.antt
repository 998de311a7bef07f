use mathlib.Core.Path.{◌≡◌}
use Prim.Native.Nat.{◌+◌, ◌-◌, ◌*◌, ◌≤◌, max}
use Rattle.pixel.specs.Pixel.{get_pixel}
use Rattle.blit.specs.Blit.{pixels}
use Rattle.blit_pattern.proofs.repeat_pixels.Given as goal

abbrev pub invariant-loop-i : goal.invariant-loop-i
invariant-loop-i g l = let bytes = g.row.BYTES in
    (l.i ≤ max 16 l.width) × (l.line ≡ pixels bytes (λ s d. s) (λ k. (16 + k) * bytes) (λ m k. get_pixel bytes m (k * bytes)) (l.i - 16) l.initial.line)
