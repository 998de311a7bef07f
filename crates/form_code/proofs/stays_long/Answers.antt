use borrow.Author.Tests.{lt-ltb, le-ltb}
use Rattle.form_code.proofs.stays_long.Goals as goal

pub returns-then-to-from : goal.returns-then-to-from
returns-then-to-from c = rw (lt-ltb c.args.to c.args.from c.if-to-from.true) c.any_stays_long.ensures

pub returns : goal.returns
returns c = rw (le-ltb c.args.to c.args.from c.if-to-from.false)
