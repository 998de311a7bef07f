use mathlib.Core.Path.{refl, ap, ◌∙◌}
use Prim.Native.Nat.{ℕ, ◌/◌}
use native.Mathlib.Nat.{mul-one}
use native.Mathlib.Omega.{arith}
use Rattle.blit.specs.Words.{per_word}
use Rattle.chip.specs.Start.{bytes_of}
use Rattle.chip_words.proofs.Clipped.{word_written}
use Rattle.chip_words.proofs.write_word.Goals as goal

pub write_clipped-requires : goal.write_clipped-requires
write_clipped-requires c = let b = c.args.b in
    let n = c.bytes_of-bytes.ensures in
    (omega (arith, n), omega (arith, n), omega (arith, c.pixels_of-count.ensures.0, mul-one (per_word (bytes_of b)), ap (λ (x : ℕ). 2 / x) n), omega (arith, c.place_of-at.ensures.1))

pub returns : goal.returns
returns c = let a = c.args in
    c.write_clipped.ensures
    ∙ word_written a.b a.d.line a.d.word c.bytes_of-bytes.result c.raster_code-code.result c.place_of-at.result c.pixels_of-count.result _ a.value a.memory.now
    c.bytes_of-bytes.ensures c.raster_code-code.ensures c.place_of-at.ensures.0 c.pixels_of-count.ensures.0 refl
