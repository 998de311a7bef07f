use mathlib.Core.Path.{refl, ◌∙◌}
use native.Mathlib.Omega.{arith}
use Rattle.script.proofs.Laws.{line_next, line_stop, line_last}
use Rattle.script_code.proofs.line_end.Goals as goal

pub loop-i-init : goal.loop-i-init
loop-i-init c = refl

pub returns-then-text-i-eq10 : goal.returns-then-text-i-eq10
returns-then-text-i-eq10 c = line_stop _ _ c.loop-i-test.true c.if-text-i-eq10.true ∙ c.loop-i.invariant

pub loop-i-preserved : goal.loop-i-preserved
loop-i-preserved c = line_next _ _ c.loop-i-test.true c.if-text-i-eq10.false ∙ c.loop-i.invariant

pub returns : goal.returns
returns c = let t = c.args.text.now in
    grind (arith, c.max.ensures, line_last t c.loop-i.i c.loop-i-test.false, line_last t c.args.at)
