use mathlib.Core.Path.{ap, ◌∙◌}
use Rattle.serial.specs.Serial.{answer_of}
use Rattle.answers.proofs.Fits.{play_narrow}
use Rattle.s1d.proofs.s1d_play.Goals as goal

pub played_of-requires : goal.played_of-requires
played_of-requires c = play_narrow _ _ _ _ c.play-answer.ensures.result_value

pub returns : goal.returns
returns c = record { value = c.played_of.ensures ∙ ap answer_of c.play-answer.ensures.result_value; memory_after = c.play-answer.ensures.memory_after }
