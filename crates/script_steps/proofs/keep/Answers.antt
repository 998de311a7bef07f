use mathlib.Core.Path.{refl}
use Rattle.record.proofs.Choice.{yes, no, tested}
use Rattle.script.specs.Steps.{kept_after}
use Rattle.script_steps.proofs.keep.Goals as goal

pub returns-then-does_keep : goal.returns-then-does_keep
unfolding kept_after
returns-then-does_keep c = yes _ (tested c.does_keep.ensures c.if-does_keep.true) refl

pub returns-else-does_keep : goal.returns-else-does_keep
unfolding kept_after
returns-else-does_keep c = no _ (tested c.does_keep.ensures c.if-does_keep.false) refl
