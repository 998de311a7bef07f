use Rattle.refusal.specs.Number.{number, rows_from}
use Rattle.command.specs.Task.{list_rows}
use Rattle.compiler_pass.proofs.check_list.Goals as goal

pub returns : goal.returns
unfolding list_rows rows_from number
returns c = simp (c.first_of.ensures, c.is_list.ensures)
