-- The stream that a screen and a list of commands compile to, as records (01, "Blits": "The stream").
use Rattle.std.specs.Prelude.{ℕ, List, [], ◌∷◌, ◌++◌, take, drop}
use Rattle.record.specs.Record.{record_with}
use Rattle.record.specs.declared.Record.{Record}
use Rattle.screen.specs.Values.{values_of, six_values}
use Rattle.screen.specs.declared.Screen.{Screen}
use Rattle.command.specs.Command.{command_of, words_taken}
use Rattle.command.specs.Values.{blit_registers, blit_values}
use Rattle.command.specs.Task.{Task, screen_in, commands_in}
use Rattle.command.specs.declared.Command.{Command}

-- records of register numbers and their values
unfoldable pub records_with : List ℕ → List ℕ → List Record
records_with [] vs = []
records_with (n ∷ ns) [] = []
records_with (n ∷ ns) (v ∷ vs) = record_with n v ∷ records_with ns vs

-- main start, main offset, window start, window offset, X, Y (002 sections 7.4 and 8.1)
abbrev pub screen_registers : List ℕ
screen_registers = 0x40 ∷ 0x44 ∷ 0x50 ∷ 0x54 ∷ 0x58 ∷ 0x5C ∷ []

unfoldable pub screen_records : Screen → List Record
screen_records s = records_with screen_registers (six_values (values_of s))

-- a data word is a record with number 10000h
unfoldable pub data_records : List ℕ → List Record
data_records [] = []
data_records (w ∷ ws) = record_with 0x10000 w ∷ data_records ws

-- a command's nine records, then a write's data words
unfoldable pub command_records : Screen → Command → List ℕ → List Record
command_records s c words = records_with blit_registers (blit_values s c) ++ data_records words

-- the records of commands, which take the host words in order
unfoldable pub draw_records : Screen → List ℕ → List (List ℕ) → List Record
draw_records s words [] = []
draw_records s words (b ∷ bs) =
    let n = words_taken s (command_of b) in
    command_records s (command_of b) (take n words) ++ draw_records s (drop n words) bs

-- the whole stream
unfoldable pub records_for : Screen → List (List ℕ) → List ℕ → List Record
records_for s commands words = screen_records s ++ draw_records s words commands

-- the stream of a task
abbrev pub records_in : Task → List Record
records_in t = records_for (screen_in t) (commands_in t) t.words
