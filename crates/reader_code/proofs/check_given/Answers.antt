use mathlib.Core.Path.{◌∙◌}
use Rattle.refusal.specs.Number.{number, rows_from}
use Rattle.reader.specs.Read.{read_rows}
use Rattle.reader_code.proofs.check_given.Goals as goal

-- the rows hold what the checks found
pub returns : goal.returns
unfolding read_rows rows_from number
returns c = c.first_of.ensures ∙ cc
