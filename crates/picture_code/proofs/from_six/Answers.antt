use mathlib.Core.Path.{refl}
use Rattle.picture_code.proofs.from_six.Goals as goal

pub returns : goal.returns
returns c = refl
