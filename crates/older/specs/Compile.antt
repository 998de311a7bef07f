-- Compiling for the S1D13706 (02, d): the byte writes of a screen. The chip has no blit engine, so there is no list, and no player.
use Rattle.std.specs.Prelude.{ℕ, ◌*◌, List, [], ◌∷◌, ◌++◌, map, not, length, ltb}
use Rattle.record.specs.Record.{stream_bytes}
use Rattle.record.specs.Checks.{Row, row, first_of, Refusal}
use Rattle.record.specs.declared.Record.{Record}
use Rattle.screen.specs.Screen.{screen_rows}
use Rattle.screen.specs.Values.{values_of}
use Rattle.screen.specs.declared.Screen.{Screen}
use Rattle.command.specs.Task.{Task, screen_in, is_list}
use Rattle.compiler.specs.Stream.{records_with}
use Rattle.compiler.specs.Compile.{Compiling, answered, buffer_with}
use Rattle.older.specs.Bytes.{older_memory, older_registers, older_bytes}

-- a record for each register, in rising number
unfoldable pub older_records : Screen → List Record
older_records s = records_with older_registers (older_bytes (values_of s))

-- the registers that records write, and the bytes that they write there
abbrev pub registers_in : List Record → List ℕ
registers_in rs = map (λ r. r.number) rs

abbrev pub bytes_in : List Record → List ℕ
bytes_in rs = map (λ r. r.value) rs

-- 10; a list that is not empty is 11, at any depth; host words are 16, since no command takes one; 17, for a buffer of `room` bytes
unfoldable pub lent_rows : Task → ℕ → List Row
lent_rows t room =
    row 10 (not (is_list t.form t.list))
    ∷ row 11 (ltb 0 (length t.list))
    ∷ row 16 (ltb 0 (length t.words))
    ∷ row 17 (ltb room (8 * length (older_records (screen_in t))))
    ∷ []

-- the screen's checks, with 81,920 bytes in 6 and 9, and these
unfoldable pub older_rows : Task → ℕ → List Row
older_rows t room = screen_rows older_memory t.screen ++ lent_rows t room

-- none of these names a command
abbrev pub older_refusal : Task → ℕ → Refusal
older_refusal t room = record { number = first_of (older_rows t room); place = 0 }

-- the answer is compiling's
unfoldable pub older_compiling : Task → ℕ → Compiling
older_compiling t room = answered (older_refusal t room) (screen_in t) (8 * length (older_records (screen_in t)))

-- the buffer afterwards
unfoldable pub older_buffer : Task → List ℕ → List ℕ
older_buffer t old = buffer_with (older_compiling t (length old)) (stream_bytes (older_records (screen_in t))) old
