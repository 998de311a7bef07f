use mathlib.Core.Path.{refl}
use borrow.Author.Tests.{eq-eqb, ne_eqb}
use Rattle.record.proofs.Choice.{yes, no, tested}
use Rattle.script.specs.Steps.{memory_after}
use Rattle.script_steps.proofs.set_memory.Goals as goal

pub returns-then-does_keep : goal.returns-then-does_keep
unfolding memory_after
returns-then-does_keep c = yes _ (tested c.does_keep.ensures c.if-does_keep.true) c.zeros.ensures

pub returns-then-k-eq-STORE : goal.returns-then-k-eq-STORE
unfolding memory_after
returns-then-k-eq-STORE c = no _ (tested c.does_keep.ensures c.if-does_keep.false) (yes _ (eq-eqb _ _ c.if-k-eq-STORE.true) c.store.ensures)

pub returns-else-k-eq-STORE : goal.returns-else-k-eq-STORE
unfolding memory_after
returns-else-k-eq-STORE c = no _ (tested c.does_keep.ensures c.if-does_keep.false) (no _ (ne_eqb _ _ c.if-k-eq-STORE.false) refl)
