use mathlib.Core.Path.{refl, ◌∙◌}
use native.Mathlib.Omega.{arith}
use Rattle.chip.proofs.Dues.{few_in_line}
use Rattle.chip_words.proofs.Gathered.{line_written}
use Rattle.chip_words.proofs.write_line.Goals as goal

pub returns-then-n-le8 : goal.returns-then-n-le8
returns-then-n-le8 c = let a = c.args in
    c.draw_words.ensures
    ∙ line_written a.b a.d.line a.d.word a.n c.place_of-at.result c.pixels_of-count.result c.bytes_of-bytes.result c.raster_code-code.result a.stream.now a.i _ _ a.memory.now
    c.bytes_of-bytes.ensures c.raster_code-code.ensures c.place_of-at.ensures.0 c.pixels_of-count.ensures.0 (omega (arith, c.if-n-le8.true)) refl

pub returns-then-n-le64 : goal.returns-then-n-le64
returns-then-n-le64 c = let a = c.args in
    c.draw_words-then-n-le64.ensures
    ∙ line_written a.b a.d.line a.d.word a.n c.place_of-at.result c.pixels_of-count.result c.bytes_of-bytes.result c.raster_code-code.result a.stream.now a.i _ _ a.memory.now
    c.bytes_of-bytes.ensures c.raster_code-code.ensures c.place_of-at.ensures.0 c.pixels_of-count.ensures.0 (omega (arith, c.if-n-le64.true)) refl

pub returns-else-n-le64 : goal.returns-else-n-le64
returns-else-n-le64 c = let a = c.args in
    c.draw_words-else-n-le64.ensures
    ∙ line_written a.b a.d.line a.d.word a.n c.place_of-at.result c.pixels_of-count.result c.bytes_of-bytes.result c.raster_code-code.result a.stream.now a.i _ _ a.memory.now
    c.bytes_of-bytes.ensures c.raster_code-code.ensures c.place_of-at.ensures.0 c.pixels_of-count.ensures.0 (omega (arith, c.requires.1, few_in_line a.b a.d)) refl
