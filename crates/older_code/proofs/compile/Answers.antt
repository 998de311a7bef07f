use mathlib.Core.Path.{subst, ap, ◌∙◌}
use Rattle.compiler.specs.Compile.{Compiling, numbers_of}
use Rattle.compiler.specs.Part.{RefusedPart}
use Rattle.older_code.proofs.compile.Goals as goal

pub returns : goal.returns
returns c =
    let k = c.compile_into-c.ensures in
    record {
      refused_part = subst (λ (n : Compiling). RefusedPart c.args.form c.args.list c.refused_part.result n) k.result_value c.refused_part.ensures;
      answer_after = c.store.ensures ∙ ap numbers_of k.result_value;
      stream_after = k.stream_after;
    }
