use mathlib.Core.Path.{ap, ◌∙◌}
use native.Mathlib.Omega.{arith}
use Rattle.reader.proofs.Answer.{seeable_looked, read_looked}
use Rattle.answers.specs.Answers.{point_of}
use Rattle.answers.proofs.Fits.{read_narrow}
use Rattle.s1d.proofs.s1d_read_point.Goals as goal

pub see-requires : goal.see-requires
see-requires c = seeable_looked _ _ _ _ _ _ _ c.look_in-at.ensures

pub point_of-requires : goal.point_of-requires
point_of-requires c = read_narrow _ _ _ _ _ _ _ (omega arith) (read_looked _ _ _ _ _ _ _ c.look_in-at.ensures _ c.see.ensures)

pub returns : goal.returns
returns c = c.point_of.ensures ∙ ap point_of (read_looked _ _ _ _ _ _ _ c.look_in-at.ensures _ c.see.ensures)
