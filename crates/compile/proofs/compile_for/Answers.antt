use mathlib.Core.Path.{sym}
use Rattle.compile.specs.Chip.{compiling_for, buffer_for}
use Rattle.compile.proofs.compile_for.Goals.{then-older, else-older}
use Rattle.compile.proofs.compile_for.Goals as goal

pub returns-clause-value : goal.returns-clause-value
unfolding compiling_for
returns-clause-value c =
    elim c.if-older.branch [
      | then-older w ↦ rw (w.answer-is, w.if-older.true) w.compile_into-answer.ensures.result_value
      | else-older w ↦ rw (w.answer-is, w.if-older.false) w.compile_into-answer-else-older.ensures.result_value
    ]

pub returns-clause-refused_part : goal.returns-clause-refused_part
returns-clause-refused_part c = rw (sym (returns-clause-value c)) c.refused_part.ensures

pub returns-clause-stream_after : goal.returns-clause-stream_after
unfolding buffer_for
returns-clause-stream_after c =
    elim c.if-older.branch [
      | then-older w ↦ rw (w.stream-is, w.if-older.true) w.compile_into-answer.ensures.stream_after
      | else-older w ↦ rw (w.stream-is, w.if-older.false) w.compile_into-answer-else-older.ensures.stream_after
    ]
