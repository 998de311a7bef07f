use mathlib.Core.Path.{ap, ◌∙◌}
use mathlib.Core.List.{List}
use Prim.Native.Nat.{ℕ, ◌+◌, ◌*◌}
use Rattle.pixel.specs.Pixel.{get_pixel}
use Rattle.blit.specs.Blit.{pixels}
use Rattle.blit.specs.Job.{mix_of}
use Rattle.blit.specs.declared.Mix.TheVariants.{Raster}
use Rattle.chip_words.proofs.draw_words.Goals as goal

pub returns : goal.returns
returns g c = let a = c.args in
    c.put_line.ensures
    ∙ ap (λ (l : List ℕ). pixels a.bytes (mix_of (Raster a.code) a.bytes) (λ k. a.at + k * a.bytes) (λ x k. get_pixel a.bytes l (k * a.bytes)) a.count a.memory.now) c.gather_words.ensures
