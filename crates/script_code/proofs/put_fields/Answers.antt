use mathlib.Core.Path.{refl, sym, ◌∙◌}
use native.Mathlib.Omega.{arith}
use Rattle.script.proofs.Laws.{fields_next, fields_end}
use Rattle.script_code.proofs.put_fields.Goals as goal

pub loop-i-init : goal.loop-i-init
loop-i-init c = (refl, refl)

pub loop-i-preserved : goal.loop-i-preserved
loop-i-preserved c = (omega arith, c.loop-i.invariant.1 ∙ fields_next _ _ _ _ _ _ c.loop-i-test.true c.number.ensures c.put_number.ensures)

pub returns : goal.returns
returns c = sym (c.loop-i.invariant.1 ∙ fields_end _ _ _ _ c.loop-i-test.false)
