use Rattle.picture.proofs.Pixels.{power_above, power_less, power_eight}
use Rattle.picture_code.proofs.highest_value.Goals as goal

pub overflow_sub-result : goal.overflow_sub-result
overflow_sub-result c = power_above _ c.if-depth-lt8.true

pub returns-then-depth-lt8 : goal.returns-then-depth-lt8
returns-then-depth-lt8 c = power_less _ c.if-depth-lt8.true

pub returns : goal.returns
returns c = power_eight _ c.if-depth-lt8.false
