use native.Mathlib.Omega.{arith}
use Rattle.wear.proofs.Commands.{column_low, column_x, column_y, column_room, blank_length, bar_length, blank_stored, bar_stored}
use mathlib.Core.Path.{ap, sym}
use Prim.Native.Nat.{◌+◌}
use borrow.Author.Rules.{rules}
use Rattle.wear_list.proofs.put_column.Goals as goal

pub overflow_mul-x : goal.overflow_mul-x
overflow_mul-x c = omega (arith, column_low c.args.c c.args.a.column c.requires.c_bound.0 c.requires.checked.column)

pub overflow_add-x : goal.overflow_add-x
overflow_add-x c = omega (arith, column_low c.args.c c.args.a.column c.requires.c_bound.0 c.requires.checked.column)

pub fill_at-requires : goal.fill_at-requires
fill_at-requires c = record { x_bound = (column_x c.args.a c.args.c c.args.height (search rules) c.requires.height_value, search rules); width_bound = (omega (arith, c.requires.checked.column), omega arith) }

pub put_command-requires : goal.put_command-requires
put_command-requires c = omega (arith, c.requires.height_in_bounds, column_room c.args.a c.args.c c.args.height)

pub returns-then-height-eq0 : goal.returns-then-height-eq0
returns-then-height-eq0 c = let a = c.args in record { value = ap (λ n. a.at + n) (sym (blank_length a.a a.c a.height c.if-height-eq0.true)); list_after = blank_stored a.a a.c a.height a.list.now a.at c.fill_at.ensures c.put_command.ensures c.if-height-eq0.true }

pub fill_at-requires-2 : goal.fill_at-requires-2
fill_at-requires-2 c = record { x_bound = (column_x c.args.a c.args.c c.args.height (search rules) c.requires.height_value, column_y c.args.a c.args.c c.args.height (search rules) c.requires.height_value c.if-height-eq0.false); width_bound = (omega (arith, c.requires.checked.column), omega (arith, c.requires.c_bound.1)) }

pub put_command-requires-2 : goal.put_command-requires-2
put_command-requires-2 c = omega (arith, c.requires.height_in_bounds, bar_length c.args.a c.args.c c.args.height c.if-height-eq0.false)

pub overflow_add-result-2 : goal.overflow_add-result-2
overflow_add-result-2 c = omega (arith, c.requires.height_in_bounds, bar_length c.args.a c.args.c c.args.height c.if-height-eq0.false)

pub returns : goal.returns
returns c = let a = c.args in record { value = ap (λ n. a.at + n) (sym (bar_length a.a a.c a.height c.if-height-eq0.false)); list_after = bar_stored a.a a.c a.height a.list.now a.at c.fill_at.ensures c.put_command.ensures c.if-height-eq0.false c.fill_at-2.ensures c.put_command-2.ensures }
