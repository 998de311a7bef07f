use Rattle.std.proofs.Common.{refl}
use Rattle.ring.proofs.Heights.{heights_none, heights_more, heights_all}
use Rattle.ring_code.proofs.heights_told.Goals as goal

pub loop-i-init : goal.loop-i-init
loop-i-init c = heights_none _ _ _ c.requires.hours_bound refl

pub loop-i-preserved : goal.loop-i-preserved
loop-i-preserved c = let a = c.args in
    let l = c.loop-i in
    heights_more _ a.hours l.heights l.i _ _ l.invariant c.loop-i-test.true c.height_of.ensures c.hour_told.ensures.result_value

pub returns : goal.returns
returns c = let a = c.args in
    let l = c.loop-i in
    let told = heights_all _ a.hours l.heights l.i l.invariant c.loop-i-test.false in
    record { result_value = told.0; result_len = told.1 }
