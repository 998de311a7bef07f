-- Numbers of 16 bits that the program is given as text.
use Rattle.std.specs.Prelude.{ℕ, cond, Option, Some, None, leb}

unfoldable pub short_of : Option ℕ → Option ℕ
short_of (Some n) = cond (leb n 65535) (Some n) None
short_of None = None
