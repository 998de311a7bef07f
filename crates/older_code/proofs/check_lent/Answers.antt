use Rattle.refusal.specs.Number.{number, rows_from}
use Rattle.compiler.specs.Stream.{records_with}
use Rattle.older.specs.Bytes.{older_bytes}
use Rattle.older.specs.Compile.{older_records, lent_rows}
use Rattle.older_code.proofs.check_lent.Goals as goal

pub returns : goal.returns
unfolding lent_rows older_records records_with older_bytes rows_from number
returns c = simp (c.first_of.ensures, c.is_list.ensures)
