use Prim.Native.Nat.{ℕ, ◌*◌, ◌≤◌}
use native.Mathlib.Omega.{arith}
use native.Mathlib.Nat.{mul-le-mul}
use Rattle.command_share.proofs.Run.{line_beyond, line_decides}
use Rattle.command_share.proofs.lines_meet.Goals as goal

-- the bytes of the lines before the one that is asked
lines : (n line : ℕ) → n ≤ 65535 → line ≤ 4294967295 → n * line ≤ 65535 * 4294967295
lines n line h k = mul-le-mul {n₂ = 65535} {m₂ = 4294967295} h k

pub returns-then-count-j : goal.returns-then-count-j
returns-then-count-j c = line_beyond _ _ _ _ _ _ _ c.first_past-j.ensures c.if-count-j.true

pub overflow_mul-from : goal.overflow_mul-from
overflow_mul-from c = omega (arith, lines c.first_past-j.result c.args.line (omega arith) (omega arith))

pub overflow_add-from : goal.overflow_add-from
overflow_add-from c = omega (arith, lines c.first_past-j.result c.args.line (omega arith) (omega arith))

pub is_met-requires : goal.is_met-requires
is_met-requires c = (omega (arith, lines c.first_past-j.result c.args.line (omega arith) (omega arith)), omega arith)

pub returns : goal.returns
returns c = line_decides _ _ _ _ _ _ _ _ c.first_past-j.ensures c.if-count-j.false c.is_met.ensures
