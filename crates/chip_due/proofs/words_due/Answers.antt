use Rattle.std.proofs.Common.{ap, ◌∙◌, ◌-◌, ◌+◌, ◌*◌, ◌≤◌, ℕ, arith}
use native.Mathlib.Nat.{mul-le-mul}
use Rattle.chip.specs.Words.{due_in_all}
use Rattle.chip_due.proofs.words_due.Goals as goal

-- at most 1,023 lines of at most 1,024 words are left
pub returns : goal.returns
unfolding due_in_all
returns c = let a = c.args in
    let l = c.saturating_sub-lines.ensures in
    let bound : c.saturating_sub-lines.result * c.words_of.result ≤ 1023 * 1024 = mul-le-mul {n₂ = 1023} {m₂ = 1024} (omega arith) (omega arith) in (
      (λ t. (l ∙ ap (λ (x : ℕ). x - (a.d.line + 1)) c.height_of.ensures) t * c.words_of.ensures.0 t + c.line_due.ensures.0 t),
      omega arith,
    )
