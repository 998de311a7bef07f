use mathlib.Core.Path.{◌≡◌, ap, ap₂, ◌∙◌}
use native.Mathlib.Numerals.{add-one}
use Rattle.pixel.specs.Pixel.{get_pixel, put_pixel}
use Rattle.pixel.specs.Masking.{masked}
use Rattle.pixel.specs.declared.Masks.{Masks}
use Rattle.pixel.proofs.Masking.{at_once}
use Rattle.blit.specs.Job.{mix_of}
use Rattle.blit.specs.declared.Mix.TheVariants.{Raster}
use Rattle.blit.proofs.Bytes.{bytewise_more}
use Rattle.blit.proofs.Worker.{straight_none}
use Rattle.blit_line.proofs.raster_bytes.Goals as goal

pub loop-i-init : goal.loop-i-init
loop-i-init c = straight_none _ _ _ _

pub loop-i-preserved : goal.loop-i-preserved
loop-i-preserved c = let l = c.loop-i in
    let masks = c.masks_of-masks in
    let a = c.args in
    let x = get_pixel 1 a.source.now l.i in
    let y = get_pixel 1 l.line l.i in
    let drawn : c.combine_under-r.result ≡ mix_of (Raster a.code) 1 x y =
    c.combine_under-r.ensures
    ∙ ap₂ (masked masks.result) c.get_pixel-s.ensures c.get_pixel-d.ensures
    ∙ ap (λ (m : Masks). masked m x y) masks.ensures
    ∙ at_once 8 a.code x y in
    rw add-one
    (c.put_pixel.ensures
    ∙ ap (put_pixel 1 l.line l.i) drawn
    ∙ bytewise_more a.code a.source.now a.line.now l.i l.line l.invariant)
