use mathlib.Core.Path.{sym, ap, ◌∙◌}
use Prim.Native.Nat.{ℕ}
use Rattle.text.specs.Refusal.{refusal_line}
use Rattle.text.proofs.Stored.{stored_as}
use Rattle.picture.specs.Picture.{answer_line}
use Rattle.picture_code.proofs.put_answer.Goals as goal

pub returns-in-Ok : goal.returns-in-Ok
unfolding answer_line
returns-in-Ok c = stored_as (ap answer_line (sym c.in-Ok.is ∙ c.read_point.ensures.value)) c.put_point.ensures

pub returns-in-Err : goal.returns-in-Err
unfolding answer_line
returns-in-Err c = stored_as (ap (λ (n : ℕ). refusal_line n 0) c.number.ensures ∙ ap answer_line (sym c.in-Err.is ∙ c.read_point.ensures.value)) c.put_refusal.ensures
