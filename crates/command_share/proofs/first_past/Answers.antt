use native.Mathlib.Omega.{arith}
use native.Mathlib.Nat.{div-le_self}
use mathlib.Core.Path.{sym, ap, ◌∙◌}
use Prim.Native.Nat.{ℕ, ◌+◌, ◌-◌}
use Rattle.command_share.proofs.Run.{first_is_0, first_is_later}
use Rattle.command_share.proofs.first_past.Goals as goal

pub returns-then-a-end : goal.returns-then-a-end
returns-then-a-end c = sym (first_is_0 _ _ _ _ c.if-a-end.true)

pub overflow_add-result : goal.overflow_add-result
overflow_add-result c = omega (arith, c.quotient.ensures, div-le_self (c.args.a - (c.args.at + c.args.size)) c.args.line)

pub returns : goal.returns
returns c = ap (λ (n : ℕ). n + 1) c.quotient.ensures ∙ sym (first_is_later _ _ _ _ c.if-a-end.false)
