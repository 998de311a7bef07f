use Prim.Native.Nat.{ℕ, ◌*◌}
use mathlib.Core.Path.{sym, ap, ◌∙◌}
use native.Mathlib.Omega.{arith}
use native.Mathlib.Nat.{lt_of_le_of_lt, mul-le-mul}
use lib.Dec.{lit<}
use Rattle.command.specs.Command.{words_taken}
use Rattle.command.proofs.Operation.{by_write, not_write}
use Rattle.command_code.proofs.words_taken.Goals as goal

pub returns-then-c-ne2 : goal.returns-then-c-ne2
unfolding words_taken
returns-then-c-ne2 c = sym (not_write _ _ _ c.if-c-ne2.true)

pub overflow_mul-result : goal.overflow_mul-result
overflow_mul-result c = record { fits = lt_of_le_of_lt (mul-le-mul {n₂ = 65535} {m₂ = 65535} c.line_words.ensures.1 (omega arith)) (lit< tt) }

pub returns : goal.returns
unfolding words_taken
returns c = ap (λ (n : ℕ). n * c.args.c.height) c.line_words.ensures.0 ∙ sym (by_write _ _ _ _ _ _ _ c.if-c-ne2.false)
