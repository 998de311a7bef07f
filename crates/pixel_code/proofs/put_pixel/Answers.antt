use native.Mathlib.Omega.{arith}
use Rattle.pixel.proofs.Pixels.{put_is_one, put_is_two}
use Rattle.pixel_code.proofs.put_pixel.Goals as goal

pub returns-then-bytes-eq2 : goal.returns-then-bytes-eq2
returns-then-bytes-eq2 c = rw c.to_le_bytes.ensures (put_is_two _ _ _ _ (omega arith))

pub returns-else-bytes-eq2 : goal.returns-else-bytes-eq2
returns-else-bytes-eq2 c = rw c.to_le_bytes.ensures (put_is_one _ _ _ _ (omega arith))
