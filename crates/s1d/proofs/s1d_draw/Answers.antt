use mathlib.Core.Path.{ap, ◌∙◌}
use Rattle.answers.specs.Answers.{drawn_of}
use Rattle.answers.proofs.Fits.{draw_narrow}
use Rattle.s1d.proofs.s1d_draw.Goals as goal

pub drawn_of-requires : goal.drawn_of-requires
drawn_of-requires c = draw_narrow _ _ _ _ c.draw-answer.ensures.result_value

pub returns : goal.returns
returns c =
    let drawn = c.draw-answer.ensures in
    record {
      value = c.drawn_of.ensures ∙ ap drawn_of drawn.result_value;
      stream_after = drawn.stream_after;
      memory_after = drawn.memory_after;
    }
