use native.Mathlib.Omega.{arith}
use Rattle.wear.proofs.Fonts.{digits_one, digits_two, digits_three, digits_four, digits_five}
use Rattle.wear_glyph.proofs.digits_of.Goals as goal

pub returns-then-n-lt10 : goal.returns-then-n-lt10
returns-then-n-lt10 c = record { digits_value = digits_one _ c.if-n-lt10.true; count_bound = omega arith }

pub returns-then-n-lt100 : goal.returns-then-n-lt100
returns-then-n-lt100 c = record { digits_value = digits_two _ (omega arith) (omega arith); count_bound = omega arith }

pub returns-then-n-lt1000 : goal.returns-then-n-lt1000
returns-then-n-lt1000 c = record { digits_value = digits_three _ (omega arith) (omega arith); count_bound = omega arith }

pub returns-then-n-lt10000 : goal.returns-then-n-lt10000
returns-then-n-lt10000 c = record { digits_value = digits_four _ (omega arith) (omega arith); count_bound = omega arith }

pub returns : goal.returns
returns c = record { digits_value = digits_five _ (omega arith) (omega arith); count_bound = omega arith }
