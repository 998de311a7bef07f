use mathlib.Core.Path.{◌≡◌}
use Prim.Native.Nat.{◌*◌}
use Rattle.pixel.specs.Pixel.{get_pixel}
use Rattle.blit.specs.Job.{mix_of}
use Rattle.blit.specs.declared.Mix.TheVariants.{Key}
use Rattle.blit.specs.Line.{straight_line}
use Rattle.blit_line.proofs.key_bytes.Given as goal

abbrev pub invariant-loop-i : goal.invariant-loop-i
invariant-loop-i l = l.line ≡ straight_line 1 (mix_of (Key l.key) 1) (λ k. get_pixel 1 l.source (k * 1)) l.i l.initial.line
