use Rattle.answers.proofs.Answers.{compiled_with}
use Rattle.s1d.proofs.s1d06_compile.Goals as goal

pub returns : goal.returns
returns c = record { value = compiled_with _ _ _ _ _ c.compiled_of.ensures c.compile_into-older.ensures.result_value; stream_after = c.compile_into-older.ensures.stream_after }
