use Rattle.text.proofs.Stored.{decimal_spelt, stored_as}
use Rattle.text_code.proofs.put_decimal.Goals as goal

pub returns : goal.returns
returns c = let d = c.decimal-k.ensures in stored_as (decimal_spelt _ _ _ c.ranges.n.fits d.len d.digits) c.put.ensures
