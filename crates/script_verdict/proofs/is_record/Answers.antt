use Rattle.script.proofs.Compared.{record_is}
use Rattle.script_verdict.proofs.is_record.Goals as goal

pub returns : goal.returns
returns g c = record_is _ _ _ _ _ _ _ _ _ _ c.number.ensures c.number_at-n.ensures c.number_at-v.ensures c.number-2.ensures c.number-3.ensures c.size_of.ensures c.number-4.ensures
