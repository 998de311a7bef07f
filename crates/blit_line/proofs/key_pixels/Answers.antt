use mathlib.Core.Path.{◌≡◌, ap, ◌∙◌}
use Prim.Native.Nat.{ℕ, ◌*◌}
use native.Mathlib.Numerals.{add-one}
use Rattle.pixel.specs.Pixel.{get_pixel, put_pixel}
use Rattle.blit.specs.Job.{mix_of}
use Rattle.blit.specs.declared.Mix.TheVariants.{Key}
use Rattle.blit.proofs.Worker.{straight_none, straight_more}
use Rattle.blit_line.proofs.key_pixels.Goals as goal

pub loop-i-init : goal.loop-i-init
loop-i-init g c = straight_none _ _ _ _

pub loop-i-preserved : goal.loop-i-preserved
loop-i-preserved g c = let l = c.loop-i in
    let a = c.args in
    let bytes : ℕ = g.row.BYTES in
    let mixed : ℕ → ℕ → ℕ = mix_of (Key a.key) bytes in
    let drawn : c.keyed-r.result ≡ mixed c.get_pixel-s.result (get_pixel bytes l.line (l.i * bytes)) =
    c.keyed-r.ensures ∙ ap (mixed c.get_pixel-s.result) c.get_pixel-d.ensures in
    rw add-one
    (c.put_pixel.ensures
    ∙ ap (put_pixel bytes l.line (l.i * bytes)) drawn
    ∙ straight_more bytes mixed (λ k. get_pixel bytes a.source.now (k * bytes)) l.i _ l.line _ l.invariant c.get_pixel-s.ensures)
