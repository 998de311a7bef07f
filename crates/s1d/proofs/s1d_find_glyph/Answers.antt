use mathlib.Core.Path.{ap, ◌∙◌}
use Rattle.answers.specs.Answers.{glyph_given}
use Rattle.s1d.proofs.s1d_find_glyph.Goals as goal

pub returns : goal.returns
returns c = c.glyph_given.ensures ∙ ap glyph_given c.find_glyph-found.ensures
