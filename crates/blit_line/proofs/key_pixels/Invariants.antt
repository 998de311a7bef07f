use mathlib.Core.Path.{◌≡◌}
use Prim.Native.Nat.{◌*◌}
use Rattle.pixel.specs.Pixel.{get_pixel}
use Rattle.blit.specs.Job.{mix_of}
use Rattle.blit.specs.declared.Mix.TheVariants.{Key}
use Rattle.blit.specs.Line.{straight_line}
use Rattle.blit_line.proofs.key_pixels.Given as goal

abbrev pub invariant-loop-i : goal.invariant-loop-i
invariant-loop-i g l = let bytes = g.row.BYTES in
    l.line ≡ straight_line bytes (mix_of (Key l.key) bytes) (λ k. get_pixel bytes l.source (k * bytes)) l.i l.initial.line
