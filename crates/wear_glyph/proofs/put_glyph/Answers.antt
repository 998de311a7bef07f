use native.Mathlib.Omega.{arith}
use Rattle.wear.proofs.Words.{words_narrow, words_wide}
use Rattle.wear_glyph.proofs.put_glyph.Goals as goal

pub put_narrow-requires : goal.put_narrow-requires
put_narrow-requires c = record { checked = c.requires.checked; depth_value = c.if-a-eq8.true; glyph_len = c.requires.glyph_len; at_in_bounds = omega (arith, c.requires.depth_in_bounds, words_narrow _ c.if-a-eq8.true) }

pub put_wide-requires : goal.put_wide-requires
put_wide-requires c = record { fact = c.if-a-eq8.false; glyph_len = c.requires.glyph_len; at_in_bounds = omega (arith, c.requires.depth_in_bounds, words_wide _ c.if-a-eq8.false) }
