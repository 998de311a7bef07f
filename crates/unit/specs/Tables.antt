-- The checks of compiling and of playing as one table each (01, "Refusal numbers, also the order of checking").
use Rattle.std.specs.Prelude.{ℕ, suc, ◌-◌, ◌%◌, List, [], ◌∷◌, ◌++◌, not, length, eqb}
use Rattle.record.specs.Checks.{Row, row, rows_at}
use Rattle.record.specs.Record.{records_of}
use Rattle.record.specs.declared.Record.{Record}
use Rattle.screen.specs.Screen.{screen_rows}
use Rattle.screen.specs.declared.Screen.{Screen}
use Rattle.command.specs.Command.{command_of, words_taken, command_rows}
use Rattle.command.specs.Task.{Task, screen_in, commands_in, list_rows, word_rows}
use Rattle.compiler.specs.Compile.{room_rows}
use Rattle.chip.specs.Admit.{admit_rows, chip_after}
use Rattle.chip.specs.Play.{new_chip}
use Rattle.chip.specs.declared.Chip.{Chip}

-- 12 to 15 and 29 command by command, of which the first has index i, with so many host words left before it, the memory being m bytes; a
-- refusal's place is the index of the command
unfoldable pub listed_rows : ℕ → Screen → ℕ → ℕ → List (List ℕ) → List Row
listed_rows m s i left [] = []
listed_rows m s i left (b ∷ bs) =
    rows_at i (command_rows m s left b (command_of b)) ++ listed_rows m s (suc i) (left - words_taken s (command_of b)) bs

-- "1 to 11, then 12 to 15 command by command, then 16"
unfoldable pub task_rows : ℕ → Task → List Row
task_rows m t =
    screen_rows m t.screen
    ++ (list_rows t.form (screen_in t) t.list
    ++ (listed_rows m (screen_in t) 0 (length t.words) (commands_in t)
    ++ word_rows t))

-- "Compiling checks 1 to 11, then 12 to 15 command by command, then 16, 17"
unfoldable pub compile_rows : ℕ → Task → ℕ → List Row
compile_rows m t room = task_rows m t ++ room_rows t room

-- 20 to 23 record by record, of which the first has index i; the end last: 23 while data is due. A refusal's place is the index of
-- the record, and at the end the record count
unfoldable pub record_rows : ℕ → Chip → ℕ → List Record → List Row
record_rows m c i [] = rows_at i (row 23 c.due.any ∷ [])
record_rows m c i (r ∷ rs) = rows_at i (admit_rows m c r) ++ record_rows m (chip_after c r) (suc i) rs

-- "Playing checks 18, 19, then 20 to 23 record by record, lower number first in one record, the end last"
unfoldable pub play_rows : ℕ → List ℕ → List ℕ → List Row
play_rows m stream memory =
    row 18 (not (eqb (length memory) m))
    ∷ row 19 (not (eqb (length stream % 8) 0))
    ∷ record_rows m new_chip 0 (records_of stream)
