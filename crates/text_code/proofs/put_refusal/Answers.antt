use Rattle.text.proofs.Stored.{then_stored, stored_as}
use Rattle.text.specs.Refusal.{refusal_line}
use Rattle.text_code.proofs.put_refusal.Goals as goal

pub returns : goal.returns
unfolding refusal_line
returns c = then_stored (then_stored (then_stored (then_stored (then_stored c.put-at.ensures c.put_decimal-at.ensures) c.put-at-2.ensures) c.put_decimal-at-2.ensures) c.put-at-3.ensures) (then_stored (stored_as c.reason_in.ensures c.put-at-4.ensures) c.put.ensures)
