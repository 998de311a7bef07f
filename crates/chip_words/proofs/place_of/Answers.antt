use mathlib.Core.Path.{ap, ◌∙◌}
use Prim.Native.Nat.{ℕ, ◌+◌, ◌*◌}
use native.Mathlib.Omega.{arith}
use Rattle.chip_words.proofs.Gathered.{word_place}
use Rattle.chip_words.proofs.place_of.Goals as goal

pub returns : goal.returns
returns c = let a = c.args in (
  (λ t.
      (c.from-2.ensures ∙ c.destination_of.ensures) t
      + (c.from.ensures t * c.line_of.ensures t + (ap (λ (w : ℕ). 2 * w) c.from-along.ensures ∙ word_place a.b a.d.word) t)),
  grind arith,
)
