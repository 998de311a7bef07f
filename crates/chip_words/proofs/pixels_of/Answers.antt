use Prim.Native.Nat.{◌-◌, ◌*◌, min}
use mathlib.Core.Path.{◌∙◌}
use native.Mathlib.Omega.{arith}
use Rattle.blit.specs.Words.{per_word}
use Rattle.chip.specs.Start.{bytes_of}
use Rattle.chip_words.proofs.pixels_of.Goals as goal

pub returns : goal.returns
returns c = let a = c.args in
    let p = c.per_word-per.ensures.0 in (
      c.min.ensures
          ∙ (λ t. min (p t * a.n) (c.saturating_sub-left.ensures t))
          ∙ (λ t. min (per_word (bytes_of a.b) * a.n) (c.width_of.ensures t - c.from-word.ensures t * p t)),
      omega arith,
    )
