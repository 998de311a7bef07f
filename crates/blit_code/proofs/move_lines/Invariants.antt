use mathlib.Core.Path.{◌≡◌}
use lib.ListN.{length}
use Rattle.blit.specs.Blit.{chip_lines, towards, memory as in_memory}
use Rattle.blit.specs.Job.{blit_of}
use Rattle.blit_code.proofs.move_lines.Given as goal

abbrev pub invariant-loop-j : goal.invariant-loop-j
invariant-loop-j l =
    (l.memory ≡ chip_lines (blit_of l.job (in_memory l.from)) (towards l.job.down) l.j l.initial.memory)
    × (length l.source ≡ 2048)
