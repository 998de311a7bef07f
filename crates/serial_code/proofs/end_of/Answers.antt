use mathlib.Core.Path.{sym, ap, ◌∙◌}
use Prim.Native.Nat.{ℕ}
use native.Mathlib.Omega.{arith}
use Rattle.refusal.specs.Number.{number}
use Rattle.serial.specs.Serial.{keeping}
use Rattle.serial.proofs.Players.{end_repeats, end_19, end_23, end_0}
use Rattle.serial_code.proofs.end_of.Goals as goal

pub returns-then-p-gt0 : goal.returns-then-p-gt0
returns-then-p-gt0 c = sym (end_repeats c.args.p (λ e. omega arith))

pub returns-then-p-ne0 : goal.returns-then-p-ne0
unfolding number
returns-then-p-ne0 c = c.keep.ensures ∙ ap (λ (n : ℕ). keeping c.args.p n 0) c.number.ensures ∙ sym (end_19 c.args.p (omega arith) (λ e. c.if-p-ne0.true (omega arith)))

pub returns-then-p-ne0-2 : goal.returns-then-p-ne0-2
unfolding number
returns-then-p-ne0-2 c = c.keep-then-p-ne0-2.ensures ∙ ap (λ (n : ℕ). keeping c.args.p n c.args.p.count) c.number-then-p-ne0-2.ensures ∙ sym (end_23 c.args.p (omega arith) (omega arith) c.if-p-ne0-2.true)

pub returns : goal.returns
returns c = c.keep-2.ensures ∙ sym (end_0 c.args.p (omega arith) (omega arith) c.if-p-ne0-2.false)
