use Rattle.ring.proofs.Told.{refuses, slot_told, answers}
use Rattle.ring_code.specs.View.{ring_of}
use Rattle.ring_code.proofs.hour_told.Goals as goal

pub returns-then-age-gt511 : goal.returns-then-age-gt511
returns-then-age-gt511 c =
    let r = ring_of c.args.v in
    record { result_value = (refuses r _ c.if-age-gt511.true).0; value = (refuses r _ c.if-age-gt511.true).1 }

pub returns : goal.returns
returns c = let a = c.args in
    let told = answers c.slot_hour.result (slot_told (ring_of a.v) a.age _ c.if-age-gt511.false c.slot_of-k.ensures) (c.slot_hour.ensures.result_value, c.slot_hour.ensures.value) in
    record { result_value = told.0; value = told.1 }
