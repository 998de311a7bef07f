use mathlib.Core.Path.{◌≡◌}
use Prim.Native.Nat.{◌+◌}
use lib.ListN.{length}
use Rattle.blit.specs.Blit.{given, chip_lines, towards}
use Rattle.blit.specs.Job.{blit_of}
use Rattle.blit_pattern.specs.Pattern.{rows_pixel}
use Rattle.blit_code.proofs.few_lines.Given as goal

abbrev pub invariant-loop-j : goal.invariant-loop-j
invariant-loop-j l =
    (l.memory ≡ chip_lines (blit_of l.job (given (λ i k. rows_pixel l.job.bytes l.rows (l.x + i) (l.y + k)))) (towards l.job.down) l.j l.initial.memory)
    × (length l.source ≡ 2048)
