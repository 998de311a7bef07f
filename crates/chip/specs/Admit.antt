-- One stream record: its refusal, the registers after it, and its effect on the memory (01, refusal numbers 20 to 23).
use Rattle.std.specs.Prelude.{ℕ, ◌+◌, ◌%◌, List, [], ◌∷◌, Bool, true, false, not, ◌&&◌, ◌||◌, cond, ltb, eqb}
use Rattle.record.specs.Checks.{Row, row, first_of}
use Rattle.record.specs.declared.Record.{Record}
use Rattle.blit.specs.Words.{words_across, chip_word}
use Rattle.chip.specs.Register.{listed, fits, screen_after, blit_after}
use Rattle.chip.specs.Start.{operation, bytes_of, width_of, height_of, startable, within, write_of, started}
use Rattle.chip.specs.declared.Registers.{Registers}
use Rattle.chip.specs.declared.Due.{Due}
use Rattle.chip.specs.declared.Chip.{Chip}

-- 10000h: a host data word
abbrev pub is_data : Record → Bool
is_data r = eqb r.number 0x10000

-- 8000h with bit 0 set
abbrev pub starts : Record → Bool
starts r = eqb r.number 0x8000 && eqb (r.value % 2) 1

-- the blit registers once the record is written
abbrev pub written : Chip → Record → Registers
written c r = blit_after c.blit r.number r.value

-- rows 20 to 23 for a record, in a memory of m bytes
unfoldable pub admit_rows : ℕ → Chip → Record → List Row
admit_rows m c r =
    row 20 (not (listed r.number))
    ∷ row 21 (not (fits r.number r.value) || (starts r && not (startable (written c r))))
    ∷ row 22 (starts r && not (within m (written c r)))
    ∷ row 23 (cond (is_data r) (not c.due.any) c.due.any)
    ∷ []

-- 0, or why the record is refused
unfoldable pub refusal : ℕ → Chip → Record → ℕ
refusal m c r = first_of (admit_rows m c r)

-- no data is due
abbrev pub no_data : Due
no_data = record { any = false; line = 0; word = 0 }

-- the next word that is due once one has come: of the same line, of the next line, or none
unfoldable pub due_after : Registers → Due → Due
due_after b d =
    cond (ltb (d.word + 1) (words_across (bytes_of b) (width_of b)))
    (record { any = true; line = d.line; word = d.word + 1 })
    (cond (ltb (d.line + 1) (height_of b)) (record { any = true; line = d.line + 1; word = 0 }) no_data)

-- a started write waits for its first word
unfoldable pub due_of : Registers → Record → Due
due_of b r = record { any = starts r && eqb (operation b) 0; line = 0; word = 0 }

-- the chip after a record that is not refused
unfoldable pub chip_after : Chip → Record → Chip
chip_after c r =
    record {
      screen = screen_after c.screen r.number r.value;
      blit = written c r;
      due = cond (is_data r) (due_after c.blit c.due) (due_of (written c r) r);
    }

-- its effect on the memory
unfoldable pub effect : Chip → Record → List ℕ → List ℕ
effect c r old =
    cond (is_data r)
    (chip_word (write_of c.blit (λ i j. 0)) c.due.line c.due.word r.value old)
    (cond (starts r) (started (written c r) old) old)
