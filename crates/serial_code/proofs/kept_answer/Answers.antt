use native.Mathlib.Omega.{arith}
use lib.ListN.{length}
use mathlib.Core.Path.{◌≡◌, ap, ◌∙◌}
use Rattle.serial.specs.Serial.{answer_of}
use Rattle.serial.proofs.Ways.{kept_refusal, kept_values, same_length as array_length}
use Rattle.serial_code.proofs.kept_answer.Goals as goal

pub returns-then-p-ne0 : goal.returns-then-p-ne0
returns-then-p-ne0 c = c.answer_with.ensures ∙ ap answer_of (kept_refusal c.args.p c.if-p-ne0.true)

pub returns : goal.returns
returns c =
    let six : length c.args.p.values ≡ 6 = omega arith in
    kept_values c.args.p c.if-p-ne0.false (array_length c.args.p.values ∙ six)
