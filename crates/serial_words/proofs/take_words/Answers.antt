use mathlib.Core.Path.{◌≡◌}
use native.Mathlib.Omega.{arith}
use lib.ListN.{length}
use Rattle.screen.specs.Screen.{memory_size}
use Rattle.serial.proofs.Alone.{alone, words_taken_lem}
use Rattle.serial_words.proofs.take_words.Goals as goal

pub write_line-requires : goal.write_line-requires
write_line-requires c = let w = alone c.args.p c.args.block.now c.requires in (omega arith, w.line)

pub due_in_line-due-requires : goal.due_in_line-due-requires
due_in_line-due-requires c = let w = alone c.args.p c.args.block.now c.requires in (w.some, w.line)

pub returns : goal.returns
returns c = let a = c.args in
    -- the array of screen registers has six numbers
    let six : length a.p.values ≡ 6 = omega arith in
    words_taken_lem memory_size a.p a.memory.now a.block.now (alone a.p a.block.now c.requires) c.more_records.ensures.1 six c.due_in_line-due.result c.more_records.result _
    c.due_in_line-due.ensures c.more_records.ensures.0 c.write_line.ensures
