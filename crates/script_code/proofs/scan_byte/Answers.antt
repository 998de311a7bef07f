use mathlib.Core.Path.{refl}
use borrow.Author.Tests.{eq-eqb, ne_eqb}
use Rattle.record.proofs.Choice.{yes}
use Rattle.script.specs.Script.{scan_byte}
use Rattle.script_code.proofs.scan_byte.Goals as goal

pub returns-then-b-eq32 : goal.returns-then-b-eq32
unfolding scan_byte
returns-then-b-eq32 c = yes _ (eq-eqb _ _ c.if-b-eq32.true) refl

pub returns-then-s-k : goal.returns-then-s-k
unfolding scan_byte
returns-then-s-k c = simp (ne_eqb _ _ c.if-b-eq32.false, ne_eqb _ _ c.if-s-k.true)

pub returns-then-b-eq104 : goal.returns-then-b-eq104
unfolding scan_byte
returns-then-b-eq104 c = simp (ne_eqb _ _ c.if-b-eq32.false, eq-eqb _ _ c.if-s-k.false, eq-eqb _ _ c.if-b-eq104.true)

pub returns : goal.returns
unfolding scan_byte
returns c = simp (ne_eqb _ _ c.if-b-eq32.false, eq-eqb _ _ c.if-s-k.false, ne_eqb _ _ c.if-b-eq104.false)
