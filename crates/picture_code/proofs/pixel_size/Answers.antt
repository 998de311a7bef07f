use Rattle.picture.proofs.Pixels.{three_sized, one_sized}
use Rattle.picture_code.proofs.pixel_size.Goals as goal

pub returns-then-depth-eq16 : goal.returns-then-depth-eq16
returns-then-depth-eq16 c = three_sized _ c.if-depth-eq16.true

pub returns-else-depth-eq16 : goal.returns-else-depth-eq16
returns-else-depth-eq16 c = one_sized _ c.if-depth-eq16.false
