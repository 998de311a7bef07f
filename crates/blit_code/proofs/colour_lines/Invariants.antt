use mathlib.Core.Path.{◌≡◌}
use Rattle.blit.specs.Blit.{chip_lines, towards, given}
use Rattle.blit.specs.Job.{blit_of}
use Rattle.blit_code.proofs.colour_lines.Given as goal

abbrev pub invariant-loop-j : goal.invariant-loop-j
invariant-loop-j l = l.memory ≡ chip_lines (blit_of l.job (given (λ i k. l.colour))) (towards l.job.down) l.j l.initial.memory
