use Rattle.std.proofs.Common.{◌≡◌, ◌∙◌, ap, ◌/◌, ◌*◌, ℕ, arith, mul_comm}
use Rattle.std.proofs.Math.Nat.{div-div-eq-div-mul}
use Rattle.chip.specs.Start.{source_of, bytes_of}
use Rattle.chip_due.proofs.pattern_base.Goals as goal

-- the source address's pixels, and then 64 of them
whole : (source bytes : ℕ) → source / bytes / 64 * (64 * bytes) ≡ source / (64 * bytes) * (64 * bytes)
whole source bytes =
    ap (λ (n : ℕ). n * (64 * bytes)) (div-div-eq-div-mul source bytes 64 ∙ ap (λ (n : ℕ). source / n) (mul_comm bytes 64))

pub returns : goal.returns
returns c = grind (arith, whole (source_of c.args.b) (bytes_of c.args.b))
