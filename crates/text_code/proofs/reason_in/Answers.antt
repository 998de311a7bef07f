use Rattle.text.proofs.Table.{reason_at}
use Rattle.text_code.proofs.reason_in.Goals as goal

pub returns-then-number-gt29 : goal.returns-then-number-gt29
returns-then-number-gt29 c = (reason_at c.args.table.now _ c.requires).none_above c.if-number-gt29.true

pub returns : goal.returns
returns c = (reason_at c.args.table.now _ c.requires).row_is _ c.if-number-gt29.false
