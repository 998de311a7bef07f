use mathlib.Core.Path.{sym}
use Rattle.answers.proofs.Answers.{looking_with, line_with}
use Rattle.s1d.proofs.line_in.Goals as goal

pub read_line_from-requires : goal.read_line_from-requires
read_line_from-requires c = looking_with _ _ _ _ _ _ _ _ c.look_in-at.ensures (sym c.values_given-v.ensures)

pub returns : goal.returns
returns c = let told = line_with _ _ _ _ _ _ _ _ _ c.read_line_from.ensures.value c.read_line_from.ensures.line_after c.values_given-v.ensures in record { value = told.0; line_after = told.1 }
