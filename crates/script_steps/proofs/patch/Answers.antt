use mathlib.Core.Path.{refl}
use borrow.Author.Tests.{eq-eqb, ne_eqb}
use Rattle.record.proofs.Choice.{yes, no}
use Rattle.script.specs.Steps.{stream_patched}
use Rattle.script_steps.proofs.patch.Goals as goal

pub returns-then-k-eq-PATCH : goal.returns-then-k-eq-PATCH
unfolding stream_patched
returns-then-k-eq-PATCH c = yes _ (eq-eqb _ _ c.if-k-eq-PATCH.true) c.store.ensures

pub returns-else-k-eq-PATCH : goal.returns-else-k-eq-PATCH
unfolding stream_patched
returns-else-k-eq-PATCH c = no _ (ne_eqb _ _ c.if-k-eq-PATCH.false) refl
