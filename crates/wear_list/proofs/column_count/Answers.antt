use borrow.Author.Tests.{eq-eqb, ne_eqb}
use mathlib.Core.Path.{refl}
use Rattle.record.proofs.Choice.{yes, no}
use Rattle.wear_list.proofs.column_count.Goals as goal

pub returns-then-height-ne0 : goal.returns-then-height-ne0
returns-then-height-ne0 c = no _ (ne_eqb _ _ c.if-height-ne0.true) refl

pub returns : goal.returns
returns c = yes _ (eq-eqb _ _ c.if-height-ne0.false) refl
