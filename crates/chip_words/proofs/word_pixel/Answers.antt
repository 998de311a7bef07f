use mathlib.Core.Path.{◌≡◌, ap, ◌∙◌}
use mathlib.Core.List.{List}
use Prim.Native.Nat.{ℕ}
use lib.ListN.{get_or}
use native.Mathlib.Omega.{arith}
use Rattle.chip_words.proofs.Clipped.{word_whole, word_byte, first_only}
use Rattle.chip_words.proofs.word_pixel.Goals as goal

pub returns-then-bytes-eq2 : goal.returns-then-bytes-eq2
returns-then-bytes-eq2 c = word_whole c.args.bytes c.args.word c.args.i c.if-bytes-eq2.true (first_only c.args.bytes c.args.i c.if-bytes-eq2.true c.requires.2) (omega arith)

pub returns-else-bytes-eq2 : goal.returns-else-bytes-eq2
returns-else-bytes-eq2 c = let e : c.args.bytes ≡ 1 = omega arith in
    c.from.ensures ∙ ap (λ (l : List ℕ). get_or l c.args.i 0) c.to_le_bytes.ensures ∙ word_byte c.args.bytes c.args.word c.args.i e
