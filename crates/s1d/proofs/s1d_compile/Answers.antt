use Rattle.answers.proofs.Answers.{compiled_with}
use Rattle.s1d.proofs.s1d_compile.Goals as goal

pub returns : goal.returns
returns c = record { value = compiled_with _ _ _ _ _ c.compiled_of.ensures c.compile_into-answer.ensures.result_value; stream_after = c.compile_into-answer.ensures.stream_after }
