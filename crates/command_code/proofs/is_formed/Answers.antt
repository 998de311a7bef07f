use native.Mathlib.Omega.{arith}
use lib.ListN.{length}
use Rattle.command.specs.Command.{formed}
use Rattle.command.proofs.Forms.{form_least}
use Rattle.command_code.proofs.is_formed.Goals as goal

pub slice_bounds-all_zero-end : goal.slice_bounds-all_zero-end
slice_bounds-all_zero-end c = omega (arith, form_least (length c.args.b.now) c.requires)

pub bounds-b-3 : goal.bounds-b-3
bounds-b-3 c = omega (arith, form_least (length c.args.b.now) c.requires)

pub returns : goal.returns
unfolding formed
returns c = simp (c.is_unused_zero.ensures, c.is_pattern_formed-pattern.ensures, c.is_past_zero-past.ensures, c.all_zero-rest.ensures, c.last_operation-last.ensures)
