use mathlib.Core.Path.{◌≡◌}
use Rattle.blit.specs.Blit.{given, chip_lines, towards}
use Rattle.blit.specs.Job.{blit_of}
use Rattle.blit_code.specs.Lines.{lines_pixel}
use Rattle.blit_code.proofs.pattern_lines.Given as goal

abbrev pub invariant-loop-j : goal.invariant-loop-j
invariant-loop-j l =
    l.memory ≡ chip_lines (blit_of l.job (given (λ i k. lines_pixel l.job.bytes l.lines i k))) (towards l.job.down) l.j l.initial.memory
