use mathlib.Core.Path.{refl}
use borrow.Author.Tests.{leb-true}
use Rattle.record.proofs.Choice.{yes, no, tested}
use Rattle.script.specs.Script.{number_at}
use Rattle.script_code.proofs.number_at.Goals as goal

pub returns-then-not-has_four : goal.returns-then-not-has_four
unfolding number_at
returns-then-not-has_four c = no _ (tested c.has_four.ensures (c.if-not-has_four.true)) refl

pub u32_at-requires : goal.u32_at-requires
u32_at-requires c = leb-true _ _ (tested c.has_four.ensures (c.if-not-has_four.false))

pub returns : goal.returns
unfolding number_at
returns c = yes _ (tested c.has_four.ensures (c.if-not-has_four.false)) c.u32_at.ensures
