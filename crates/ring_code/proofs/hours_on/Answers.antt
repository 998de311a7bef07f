use Rattle.ring.specs.Kept.{hours_on}
use Rattle.record.proofs.Choice.{yes, no}
use Rattle.std.proofs.Common.{refl, eq-eqb, ne_eqb}
use Rattle.ring_code.proofs.hours_on.Goals as goal

pub returns-then-any-eq0 : goal.returns-then-any-eq0
unfolding hours_on
returns-then-any-eq0 c = yes _ (eq-eqb _ _ c.if-any-eq0.true) refl

pub returns : goal.returns
unfolding hours_on
returns c = no _ (ne_eqb _ _ c.if-any-eq0.false) c.steps_to.ensures
