use mathlib.Core.Path.{refl}
use borrow.Author.Tests.{eq-eqb, ne_eqb}
use Rattle.record.proofs.Choice.{yes, no}
use Rattle.script.specs.Steps.{words_after}
use Rattle.script_steps.proofs.set_words.Goals as goal

pub returns-then-k-eq-WORD : goal.returns-then-k-eq-WORD
unfolding words_after
returns-then-k-eq-WORD c = yes _ (eq-eqb _ _ c.if-k-eq-WORD.true) c.put_words.ensures

pub returns-else-k-eq-WORD : goal.returns-else-k-eq-WORD
unfolding words_after
returns-else-k-eq-WORD c = no _ (ne_eqb _ _ c.if-k-eq-WORD.false) refl
