use mathlib.Core.Path.{◌∙◌, ap}
use mathlib.Core.List.{List}
use Prim.Native.Nat.{ℕ}
use lib.Seq.{sets}
use Rattle.picture.proofs.Pixels.{three_bytes_lem, one_byte}
use Rattle.picture_code.proofs.put_colour.Goals as goal

pub returns-then-depth-eq16 : goal.returns-then-depth-eq16
returns-then-depth-eq16 c = let a = c.args in c.put.ensures.text ∙ ap (λ (l : List ℕ). sets a.line.now a.at l) (three_bytes_lem a.depth a.c _ _ _ c.if-depth-eq16.true c.from_five.ensures c.from_six.ensures c.from_five-then-depth-eq16.ensures)

pub returns-else-depth-eq16 : goal.returns-else-depth-eq16
returns-else-depth-eq16 c = let a = c.args in c.put-else-depth-eq16.ensures.text ∙ ap (λ (l : List ℕ). sets a.line.now a.at l) (one_byte a.depth a.c c.if-depth-eq16.false)
