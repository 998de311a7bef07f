use mathlib.Core.Path.{refl}
use borrow.Author.Tests.{leb-true}
use Rattle.record.proofs.Choice.{yes, no, tested}
use Rattle.script.specs.Script.{number_put}
use Rattle.script_code.proofs.put_number.Goals as goal

pub returns-then-not-has_four : goal.returns-then-not-has_four
unfolding number_put
returns-then-not-has_four c = no _ (tested c.has_four.ensures (c.if-not-has_four.true)) refl

pub put_number-requires : goal.put_number-requires
put_number-requires c = leb-true _ _ (tested c.has_four.ensures (c.if-not-has_four.false))

pub returns : goal.returns
unfolding number_put
returns c = yes _ (tested c.has_four.ensures (c.if-not-has_four.false)) c.put_number.ensures
