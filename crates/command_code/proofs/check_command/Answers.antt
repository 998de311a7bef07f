use Rattle.refusal.specs.Number.{number, rows_from}
use Rattle.command.specs.Command.{command_rows}
use Rattle.command_code.proofs.check_command.Goals as goal

pub returns : goal.returns
unfolding command_rows rows_from number
returns c = simp (c.first_of.ensures, c.is_formed.ensures, c.is_placed.ensures, c.is_clash.ensures, c.words_taken-words.ensures)
