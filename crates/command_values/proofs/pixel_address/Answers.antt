use Prim.Native.Nat.{ℕ, ◌*◌, ◌≤◌}
use mathlib.Core.Path.{ap}
use native.Mathlib.Omega.{arith}
use native.Mathlib.Nat.{mul-le-mul}
use Rattle.screen.specs.declared.Image.{Image}
use Rattle.command.specs.Command.{address_of}
use Rattle.command_values.proofs.pixel_address.Goals as goal

-- the bytes of the lines above, and the bits of the pixels to the left
lines : (y line : ℕ) → y ≤ 131070 → line ≤ 4294967295 → y * line ≤ 131070 * 4294967295
lines y line h n = mul-le-mul {n₂ = 131070} {m₂ = 4294967295} h n

bits : (x depth : ℕ) → x ≤ 131070 → depth ≤ 255 → x * depth ≤ 131070 * 255
bits x depth h n = mul-le-mul {n₂ = 131070} {m₂ = 255} h n

pub overflow_mul-result : goal.overflow_mul-result
overflow_mul-result c = omega (arith, lines c.args.y c.surface_of-on.result.line c.requires.1 (omega arith))

pub overflow_add-result : goal.overflow_add-result
overflow_add-result c = omega (arith, lines c.args.y c.surface_of-on.result.line c.requires.1 (omega arith))

pub overflow_mul-result-2 : goal.overflow_mul-result-2
overflow_mul-result-2 c = omega (arith, bits c.args.x c.args.s.depth c.requires.0 (omega arith))

pub overflow_add-result-2 : goal.overflow_add-result-2
overflow_add-result-2 c = omega (arith, lines c.args.y c.surface_of-on.result.line c.requires.1 (omega arith), bits c.args.x c.args.s.depth c.requires.0 (omega arith))

pub returns : goal.returns
unfolding address_of
returns c = (ap (λ (i : Image). address_of c.args.s.depth i c.args.x c.args.y) c.surface_of-on.ensures, omega (arith, lines c.args.y c.surface_of-on.result.line c.requires.1 (omega arith), bits c.args.x c.args.s.depth c.requires.0 (omega arith)))
