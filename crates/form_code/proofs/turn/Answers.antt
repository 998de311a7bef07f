use borrow.Author.Tests.{lt-ltb, le-ltb}
use mathlib.Core.Bool.{not}
use native.Mathlib.Omega.{arith}
use mathlib.Core.Path.{refl, ap, sym, ◌∙◌}
use Rattle.record.proofs.Choice.{negated}
use Rattle.command.proofs.Forms.{form_least}
use Rattle.form.proofs.Answer.{length_low, turned_10, turned_17, turned_28, turned_0}
use Rattle.form_code.proofs.turn.Goals as goal

pub returns-then-not-is_list : goal.returns-then-not-is_list
returns-then-not-is_list c = let told = turned_10 _ _ _ _ (negated c.is_list.ensures (ap not c.if-not-is_list.true)) refl in record { value = told.0; target_after = told.1 }

pub nonzero_div-length : goal.nonzero_div-length
nonzero_div-length c = omega (arith, form_least c.args.from c.requires.from_value)

pub overflow_mul-length : goal.overflow_mul-length
overflow_mul-length c = let a = c.args in omega (arith, length_low a.from a.to a.list.now c.requires.to_value (sym c.is_list.ensures ∙ c.if-not-is_list.false))

pub returns-then-short : goal.returns-then-short
returns-then-short c = let told = turned_17 _ _ _ _ c.requires.from_value c.requires.to_value (negated c.is_list.ensures (ap not c.if-not-is_list.false)) (lt-ltb _ _ c.if-short.true) refl in record { value = told.0; target_after = told.1 }

pub returns-then-stays : goal.returns-then-stays
returns-then-stays c = let told = turned_28 _ _ _ _ c.requires.from_value c.requires.to_value (negated c.is_list.ensures (ap not c.if-not-is_list.false)) (le-ltb _ _ c.if-short.false) _ c.stays_long-stays.ensures c.if-stays.true refl in record { value = told.0; target_after = told.1 }

pub returns : goal.returns
returns c = let told = turned_0 _ _ _ _ c.requires.from_value c.requires.to_value (negated c.is_list.ensures (ap not c.if-not-is_list.false)) (le-ltb _ _ c.if-short.false) _ c.stays_long-stays.ensures c.if-stays.false _ c.put_list.ensures in record { value = told.0; target_after = told.1 }
