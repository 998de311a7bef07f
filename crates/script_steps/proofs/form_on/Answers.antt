use mathlib.Core.Path.{refl, sym, ◌∙◌}
use native.Mathlib.Omega.{arith}
use borrow.Author.Tests.{eq-eqb, ne_eqb}
use Rattle.record.proofs.Choice.{yes, no}
use Rattle.script_steps.proofs.form_on.Goals as goal

pub returns-then-number_at-eq0 : goal.returns-then-number_at-eq0
returns-then-number_at-eq0 c = (yes _ (eq-eqb _ 0 (sym c.number_at.ensures ∙ c.if-number_at-eq0.true)) refl, omega arith)

pub returns : goal.returns
returns c = (no _ (ne_eqb _ 0 (λ z. c.if-number_at-eq0.false (c.number_at.ensures ∙ z))) refl, omega arith)
