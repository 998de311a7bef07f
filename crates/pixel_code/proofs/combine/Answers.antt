use mathlib.Core.Path.{ap, ◌∙◌}
use Rattle.pixel.specs.Masking.{masked}
use Rattle.pixel.specs.declared.Masks.{Masks}
use Rattle.pixel.proofs.Masking.{at_once}
use Rattle.pixel_code.proofs.combine.Goals as goal

pub returns : goal.returns
returns c = let a = c.args in
    c.combine_under.ensures
    ∙ ap (λ (m : Masks). masked m a.s a.d) c.masks_of-masks.ensures
    ∙ at_once a.bits a.code a.s a.d
