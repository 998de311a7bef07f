use mathlib.Core.Path.{sym, ap, ◌∙◌, subst}
use Rattle.record.specs.Record.{records_of}
use Rattle.screen.specs.Screen.{memory_size}
use Rattle.screen.specs.Narrow.{Narrow}
use Rattle.chip.specs.Play.{Running, running_of}
use Rattle.serial.specs.Serial.{Stage}
use Rattle.serial.specs.Taking.{stage_of, records_taken}
use Rattle.serial.proofs.Follows.{pass_fits, pass_admitted, passes, narrow_run}
use Rattle.serial.proofs.Rest.{on_the_way}
use Rattle.serial_code.proofs.take_records.Goals as goal

pub perform_all-requires : goal.perform_all-requires
perform_all-requires c = let a = c.args in
    let r = running_of c.check-run.result in
    let n = c.taken_by-taken in
    (pass_fits memory_size a.start.chip a.bytes.now r n.result c.check-run.ensures n.ensures, pass_admitted memory_size a.start.chip a.bytes.now r n.result c.check-run.ensures n.ensures, c.requires.1)

pub returns : goal.returns
unfolding running_of
returns c = let a = c.args in
    let k = c.check-run in
    let n = c.taken_by-taken in (
      (λ t. stage_of (record { chip = k.result.chip; count = c.more_records.result; number = c.number_of.ensures t }) c.perform_all.new.memory)
          ∙ passes memory_size a.start.chip a.bytes.now (running_of k.result) n.result k.ensures n.ensures a.start.count _ a.memory.now _ c.more_records.ensures.1 c.more_records.ensures.0 c.perform_all.ensures
          ∙ ap (λ (g : Stage). records_taken memory_size g (records_of a.bytes.now)) (sym (on_the_way a.start a.memory.now c.requires.0)),
      subst (λ (r : Running). Narrow r.chip.screen) (sym k.ensures) (narrow_run memory_size a.start.chip 0 (records_of a.bytes.now) c.requires.2),
    )
