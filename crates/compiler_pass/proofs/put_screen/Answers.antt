use mathlib.Core.Path.{◌∙◌, ap}
use lib.Seq.{sets}
use Rattle.record.specs.Record.{stream_bytes}
use Rattle.screen.specs.Values.{six_values}
use Rattle.screen.specs.declared.ScreenValues.{ScreenValues}
use Rattle.compiler.specs.Stream.{records_with, screen_registers, screen_records}
use Rattle.compiler_pass.proofs.put_screen.Goals as goal

pub returns : goal.returns
unfolding screen_records
returns c = c.put_records.ensures ∙ ap (λ (v : ScreenValues). sets c.args.buffer.now 0 (stream_bytes (records_with screen_registers (six_values v)))) c.screen_values-v.ensures
