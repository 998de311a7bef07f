-- A number of 16 bits, or none.
use Prim.Native.Nat.{ℕ, ◌<◌}
use mathlib.Core.Path.{◌≡◌, refl, sym, ap, ◌∙◌}
use mathlib.Core.Bool.{false}
use native.Mathlib.Omega.{arith}
use borrow.Author.Tests.{le-leb, lt-leb}
use Rattle.std.specs.Prelude.{Option, Some, None, Result, Ok, Err, is_some}
use Rattle.std.specs.Result.{OkIff, result_ok}
use Rattle.strip.specs.Short.{short_of}

pub no_number : (a : Option ℕ) → is_some a ≡ false → None ≡ short_of a
unfolding short_of
no_number None h = refl
no_number (Some n) h = cc

pub is_short : {E : Type 0} (a : Option ℕ) (n : ℕ) (r : Result ℕ E) → a ≡ Some n → OkIff r (n < 65536) n → result_ok r ≡ short_of a
unfolding short_of
is_short a n (Ok s) e h = rw (e, le-leb n 65535 (omega (arith, h.0))) (ap Some h.1)
is_short a n (Err x) e h = rw (e, lt-leb n 65535 (omega (arith, h))) refl
