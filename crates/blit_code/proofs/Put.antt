-- The pixels of a source line, drawn by the worker.
use mathlib.Core.Path.{◌≡◌, refl}
use mathlib.Core.Bool.{false}
use mathlib.Core.List.{List, ◌++◌}
use Prim.Native.Nat.{ℕ, ◌+◌, ◌*◌, ◌≤◌}
use native.Mathlib.Omega.{arith}
use lib.ListN.{length, take, drop}
use Rattle.pixel.specs.Pixel.{get_pixel}
use Rattle.blit.specs.Blit.{pixels}
use Rattle.blit.specs.Job.{mix_of}
use Rattle.blit.specs.Line.{rank, work_line}
use Rattle.blit.specs.declared.Mix.{Mix}
use Rattle.blit_code.proofs.Lift.{put_back, sourced_given}

-- the worker's line put back
pub line_back : (bytes : ℕ) (mix : Mix) (at count k : ℕ) (memory source l' : List ℕ) → at + count * bytes ≤ length memory → k ≡ count * bytes
    → l' ≡ work_line false bytes count mix source count count (take k (drop at memory))
    → take at memory ++ (l' ++ drop k (drop at memory))
    ≡ pixels bytes (mix_of mix bytes) (λ i. at + i * bytes) (λ m i. get_pixel bytes source (i * bytes)) count memory
unfolding rank
line_back bytes mix at count k memory source l' room ek e =
    put_back false bytes count at k count mix (λ m i. get_pixel bytes source (i * bytes)) source memory ek room
    (sourced_given false bytes count at count mix (λ i. get_pixel bytes source (i * bytes)) source memory (omega arith) (λ n h. refl)) l' e
