use native.Mathlib.Omega.{arith}
use mathlib.Core.Path.{refl}
use borrow.Author.Tests.{eq-eqb, ne_eqb}
use Rattle.record.proofs.Choice.{yes, no}
use Rattle.wear_glyph.proofs.digits_in.Goals as goal

pub returns-then-any-eq0 : goal.returns-then-any-eq0
returns-then-any-eq0 c = record { digits_value = yes _ (eq-eqb _ _ c.if-any-eq0.true) refl; count_bound = omega arith }

pub returns : goal.returns
returns c = record { digits_value = no _ (ne_eqb _ _ c.if-any-eq0.false) c.digits_of.ensures.digits_value; count_bound = c.digits_of.ensures.count_bound }
