use mathlib.Core.Path.{refl}
use native.Mathlib.Omega.{arith}
use Rattle.pixel.proofs.Pixels.{get_is_one, get_is_two}
use Rattle.pixel_code.proofs.get_pixel.Goals as goal

pub returns-then-bytes-eq1 : goal.returns-then-bytes-eq1
returns-then-bytes-eq1 c = get_is_one _ _ _ _ (omega arith) c.from.ensures

pub returns : goal.returns
returns c =
    let a = c.args in
    omega (arith, c.from_le_bytes.ensures, get_is_two a.bytes a.s.now a.at _ _ (omega arith) refl refl)
