use mathlib.Core.Path.{refl, sym, ◌∙◌}
use native.Mathlib.Omega.{arith}
use borrow.Author.Rules.{rules}
use Rattle.script.specs.Script.{number_of}
use Rattle.script.proofs.Laws.{scan_next, scan_end, blanks_next}
use Rattle.script_code.proofs.number.Goals as goal

pub loop-i-init : goal.loop-i-init
unfolding number_of
loop-i-init c = (search rules, refl)

pub loop-i-preserved : goal.loop-i-preserved
loop-i-preserved c = (omega (arith, blanks_next _ _ _ _ c.scan_byte-s.ensures), c.loop-i.invariant.1 ∙ scan_next _ _ _ _ _ c.loop-i-test.true c.scan_byte-s.ensures)

pub returns : goal.returns
returns c = sym (c.loop-i.invariant.1 ∙ scan_end _ _ _ _ c.loop-i-test.false)
