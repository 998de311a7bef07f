use Rattle.text.proofs.Numbers.{digits_end}
use Rattle.text.proofs.Stored.{stored_as}
use Rattle.text_lines.proofs.put_hex.Goals as goal

pub returns : goal.returns
returns c = stored_as (digits_end 16 _ 8 _ _ c.requires c.eight-digits.ensures) c.put.ensures
