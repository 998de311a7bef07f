use Rattle.text.proofs.Stored.{then_stored}
use Rattle.text.specs.Lines.{record_line}
use Rattle.text_lines.proofs.put_line.Goals as goal

pub returns : goal.returns
unfolding record_line
returns c = then_stored (then_stored (then_stored c.put_hex-at.ensures c.put-at.ensures) c.put_hex-at-2.ensures) c.put.ensures
