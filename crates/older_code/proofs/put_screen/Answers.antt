use Prim.Native.Nat.{ℕ}
use mathlib.Core.Path.{◌∙◌, ap}
use mathlib.Core.List.{List}
use lib.Seq.{sets}
use Rattle.record.specs.Record.{stream_bytes}
use Rattle.compiler.specs.Stream.{records_with}
use Rattle.older.specs.Bytes.{older_registers, older_bytes}
use Rattle.older.specs.Compile.{older_records}
use Rattle.older_code.proofs.put_screen.Goals as goal

pub returns : goal.returns
unfolding older_records
returns c = c.put_records.ensures ∙ ap (λ (b : List ℕ). sets c.args.buffer.now 0 (stream_bytes (records_with older_registers b))) (c.bytes_of-values.ensures ∙ ap older_bytes c.screen_values.ensures)
