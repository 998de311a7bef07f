use native.Mathlib.Omega.{arith}
use Rattle.wear.proofs.Commands.{column_low, column_reached}
use borrow.Author.Rules.{rules}
use Rattle.wear_list.proofs.column_reach.Goals as goal

pub overflow_mul-left : goal.overflow_mul-left
overflow_mul-left c = omega (arith, column_low c.args.c c.args.a.column c.requires.c_bound.0 c.requires.checked.column)

pub overflow_add-left : goal.overflow_add-left
overflow_add-left c = omega (arith, column_low c.args.c c.args.a.column c.requires.c_bound.0 c.requires.checked.column)

pub returns : goal.returns
returns c = column_reached c.args.a c.args.c c.args.height (search rules)
