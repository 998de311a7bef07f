use Prim.Native.Nat.{ℕ, ◌+◌, ◌*◌, ◌≤◌}
use native.Mathlib.Omega.{arith}
use native.Mathlib.Nat.{mul-le-mul}
use Rattle.command_values.proofs.pattern_pixel.Goals as goal

-- the bits of the pixels before this one
bits : (y x depth : ℕ) → 8 * y + x ≤ 2295 → depth ≤ 255 → (8 * y + x) * depth ≤ 2295 * 255
bits y x depth h n = mul-le-mul {n₂ = 2295} {m₂ = 255} h n

pub overflow_mul-result : goal.overflow_mul-result
overflow_mul-result c = omega (arith, bits c.args.y c.args.x c.args.depth (omega arith) (omega arith))

pub overflow_add-result : goal.overflow_add-result
overflow_add-result c = omega (arith, bits c.args.y c.args.x c.args.depth (omega arith) (omega arith))
