-- A startable blit within the memory keeps to the limits of a job, and the job does what `started` says.
use Rattle.chip.specs.Start.{operation}
use mathlib.Core.Path.{sym, ap, ◌∙◌, ◌≡◌}
use native.Mathlib.Omega.{arith}
use Rattle.blit.specs.Job.{performed}
use Rattle.blit.specs.declared.Job.{Job}
use Rattle.chip_code.proofs.Started.{job_limits, job_started}
use Rattle.chip.proofs.Admits.{not_started}
use Rattle.chip_code.proofs.start.Goals as goal

pub returns-then-operation_of-eq0 : goal.returns-then-operation_of-eq0
returns-then-operation_of-eq0 c = not_started c.args.b c.args.memory.now (sym c.operation_of.ensures ∙ c.if-operation_of-eq0.true)

pub perform-requires : goal.perform-requires
perform-requires c = let a = c.args in
    let p = c.requires in
    let some : operation a.b ≡ 0 → ⊥ = λ e. c.if-operation_of-eq0.false (c.operation_of.ensures ∙ e) in
    rw (c.job_of-job.ensures, p.2) (job_limits 262144 a.b p.0 p.1 some (omega arith))

pub returns : goal.returns
returns c = let a = c.args in
    let some : operation a.b ≡ 0 → ⊥ = λ e. c.if-operation_of-eq0.false (c.operation_of.ensures ∙ e) in
    c.perform.ensures ∙ ap (λ (j : Job). performed j a.memory.now) c.job_of-job.ensures
    ∙ job_started a.b c.requires.0 some a.memory.now
