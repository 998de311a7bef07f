use borrow.Author.Tests.{eq-eqb, ne_eqb}
use Rattle.picture.specs.Picture.{picture_kind}
use Rattle.picture_code.proofs.put_kind.Goals as goal

pub returns-then-depth-eq16 : goal.returns-then-depth-eq16
unfolding picture_kind
returns-then-depth-eq16 c = rw (eq-eqb _ 16 c.if-depth-eq16.true) c.put.ensures

pub returns : goal.returns
unfolding picture_kind
returns c = rw (ne_eqb _ 16 c.if-depth-eq16.false) c.put-2.ensures
