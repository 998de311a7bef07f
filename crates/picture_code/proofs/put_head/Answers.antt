use mathlib.Core.Path.{ap}
use Rattle.text.specs.Text.{decimal}
use Rattle.text.proofs.Stored.{stored_length, then_stored, stored_as}
use Rattle.picture.specs.Picture.{picture_head}
use Rattle.picture_code.proofs.put_head.Goals as goal

pub returns : goal.returns
unfolding picture_head
returns c = then_stored (then_stored (then_stored (then_stored (then_stored (then_stored c.put_kind-at.ensures c.put_decimal-at.ensures) c.put-at.ensures) c.put_decimal-at-2.ensures) c.put-at-2.ensures) (stored_as (ap decimal c.highest_value.ensures) c.put_decimal-at-3.ensures)) c.put.ensures

pub shape_of-line : goal.shape_of-line
shape_of-line c = stored_length (returns c)
