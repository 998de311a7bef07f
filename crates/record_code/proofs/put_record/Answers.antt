use Rattle.record.proofs.Stores.{record_stored}
use Rattle.record_code.proofs.put_record.Goals as goal

pub returns : goal.returns
returns c = let a = c.args in
    record_stored a.buffer.now a.at a.r c.put_number.ensures c.put_number-2.ensures
