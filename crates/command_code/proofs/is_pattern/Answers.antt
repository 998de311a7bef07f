use native.Mathlib.Omega.{arith}
use Rattle.command.specs.Command.{pattern_fits}
use Rattle.command_code.proofs.is_pattern.Goals as goal

pub overflow_add-result : goal.overflow_add-result
overflow_add-result c = omega arith

pub returns : goal.returns
unfolding pattern_fits
returns c = rw c.remainder-over.ensures
