use Rattle.reader.proofs.Answer.{answered, seeable_looked, seen_looked}
use Rattle.reader_code.proofs.read_point_in.Goals as goal

pub see-requires : goal.see-requires
see-requires c = seeable_looked _ _ _ _ _ _ _ c.look_for-at.ensures

pub returns-clause-result_value : goal.returns-clause-result_value
returns-clause-result_value c = (answered c.args.size c.args.d c.args.values c.args.p c.args.q c.args.memory.now c.see.result (seen_looked _ _ _ _ _ _ _ c.look_for-at.ensures _ c.see.ensures)).0

pub returns-clause-value : goal.returns-clause-value
returns-clause-value c = seen_looked _ _ _ _ _ _ _ c.look_for-at.ensures _ c.see.ensures
