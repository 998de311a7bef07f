use borrow.Author.Rules.{rules}
use mathlib.Core.Path.{sym, ap, ◌∙◌}
use mathlib.Core.List.{List}
use Prim.Native.Nat.{ℕ, ◌*◌}
use Rattle.pixel.specs.Pixel.{get_pixel}
use Rattle.blit.specs.Job.{mix_of}
use Rattle.blit.specs.Line.{straight_line}
use Rattle.blit.specs.declared.Mix.{Mix}
use Rattle.blit.specs.declared.Mix.TheVariants.{Raster}
use Rattle.blit.proofs.Copy.{straight_copied}
use Rattle.blit.proofs.Bytes.{straight_bytes}
use Rattle.blit_line.proofs.combine_pixels.Goals as goal

-- the line under a mix
abbrev mixedLine : ℕ → ℕ → List ℕ → List ℕ → Mix → List ℕ
mixedLine bytes width source line mix = straight_line bytes (mix_of mix bytes) (λ i. get_pixel bytes source (i * bytes)) width line

pub returns-in-Store : goal.returns-in-Store
returns-in-Store c = let a = c.args in
    c.copy_bytes.ensures
    ∙ sym (straight_copied a.source.now (λ k. (c.type_inv.source k).fits) a.bytes a.width a.line.now)
    ∙ ap (mixedLine a.bytes a.width a.source.now a.line.now) (sym c.in-Store.is)

pub returns-in-Raster : goal.returns-in-Raster
returns-in-Raster c = let a = c.args in
    c.raster_bytes.ensures
    ∙ ap (λ (n : ℕ). mixedLine 1 n a.source.now a.line.now (Raster c.in-Raster.code)) c.requires.0.size
    ∙ sym (straight_bytes c.in-Raster.code a.source.now a.line.now (λ k. (c.type_inv.source k).fits)
    (λ k. search rules) a.bytes a.width)
    ∙ ap (mixedLine a.bytes a.width a.source.now a.line.now) (sym c.in-Raster.is)

pub returns-in-Key : goal.returns-in-Key
returns-in-Key c = let a = c.args in
    c.key_worker.ensures ∙ ap (mixedLine a.bytes a.width a.source.now a.line.now) (sym c.in-Key.is)
