-- 01's cases B1 to B3 as their records, played: the answer, the registers, and B2's and B3's lines; refusals, small fills, and what the registers say.
use Prim.Native.Nat.{ℕ}
use mathlib.Core.Path.{◌≡◌, refl}
use mathlib.Core.Bool.{true, false}
use mathlib.Core.List.{List, [], ◌∷◌, ◌++◌, map}
use lib.ListN.{length}
use Rattle.record.specs.Checks.{first_of}
use Rattle.record.specs.Record.{record_with, record_bytes, stream_bytes, record_at, records_from, records_of}
use Rattle.record.specs.declared.Record.{Record}
use Rattle.pixel.specs.Pixel.{get_pixel, put_pixel}
use Rattle.pixel.specs.Raster.{bitwise}
use Rattle.blit.specs.Blit.{pixels, chip_line, chip_lines, chip_blit}
use Rattle.blit.specs.Job.{blit_of}
use Rattle.blit.specs.declared.Mix.TheVariants.{Store, Raster, Key}
use Rattle.blit.specs.declared.From.TheVariants.{Colour, Memory, Pattern}
use Rattle.blit.specs.Words.{word_pixel, chip_word}
use Rattle.chip.specs.Register.{listed, fits, screen_after, blit_after}
use Rattle.chip.specs.Start.{operation, raster_code, bytes_of, source_of, destination_of, line_of, width_of, height_of, foreground_of, key_of, pattern_base, pattern_line, pattern_column, source_fits, startable, span, within, mix_by, from_by, job_of, write_of, started}
use Rattle.chip.specs.Admit.{admit_rows, refusal, due_after, due_of, chip_after, effect}
use Rattle.chip.specs.Play.{new_chip, run, applied, ending, playing, played, playing_of, playing_by, answer_of, running_of}
use Rattle.chip.specs.declared.Registers.{Registers}
use Rattle.chip.specs.declared.Chip.{Chip}
use Rattle.std.specs.Prelude.{None, Some, Err}
use Rattle.refusal.specs.Number as refusals
use Rattle.refusal.specs.declared.Refused.{Refused}
use Rattle.refusal.specs.declared.Refusal.TheVariants.{DataWord}
use Rattle.chip.proofs.Runs.{reached}
use Rattle.chip.proofs.Answers.{accepted_by_lem}

-- the six screen records, and the nine of a command
abbrev screen_records : ℕ → ℕ → ℕ → ℕ → ℕ → ℕ → List Record
screen_records a b c d e f = record_with 0x40 a ∷ record_with 0x44 b ∷ record_with 0x50 c ∷ record_with 0x54 d ∷ record_with 0x58 e ∷ record_with 0x5C f ∷ []

abbrev command_records : ℕ → ℕ → ℕ → ℕ → ℕ → ℕ → ℕ → ℕ → ℕ → List Record
command_records a b c d e f g h i =
    record_with 0x8008 a ∷ record_with 0x800C b ∷ record_with 0x8010 c ∷ record_with 0x8014 d ∷ record_with 0x8018 e ∷ record_with 0x801C f ∷ record_with 0x8020 g ∷ record_with 0x8024 h ∷ record_with 0x8000 i ∷ []

-- "0, 50h, 0, 0, 0, 0; then 0Ch, 0, 190Ah, A0h, 63h, 95h, 0, 1, 1"
abbrev pub b1 : List Record
b1 = screen_records 0 0x50 0 0 0 0 ++ command_records 0xC 0 0x190A 0xA0 0x63 0x95 0 1 1

-- on any memory of 262,144 bytes it is accepted, and gives the six values
pub b1_played : (memory : List ℕ) → length memory ≡ 262144
    → playing 262144 (stream_bytes b1) memory
    ≡ accepted_by_lem (record { main = record { start = 0; offset = 0x50 }; window = record { start = 0; offset = 0 }; x = 0; y = 0 })
unfolding first_of record_bytes stream_bytes record_at records_from records_of listed fits screen_after blit_after source_fits startable span within admit_rows refusal due_after due_of chip_after new_chip run ending playing
b1_played memory e = rw e refl

-- the registers are then its values
pub b1_registers : run 262144 new_chip 0 b1
    ≡ reached
    (record {
      screen = record { main = record { start = 0; offset = 0x50 }; window = record { start = 0; offset = 0 }; x = 0; y = 0 };
      blit = record { control = 1; command = 0xC; source = 0; destination = 0x190A; offset = 0xA0; width = 0x63; height = 0x95; background = 0; foreground = 1 };
      due = record { any = false; line = 0; word = 0 };
    })
unfolding first_of listed fits screen_after blit_after source_fits startable span within admit_rows refusal due_after due_of chip_after new_chip run
b1_registers = refl

-- a line of eight pixels at depth 8
abbrev line8 : List ℕ
line8 = 1 ∷ 2 ∷ 3 ∷ 4 ∷ 5 ∷ 6 ∷ 7 ∷ 8 ∷ []

-- B2: from addresses 6 and 7, negative; B3: from 1 and 0, positive; code Ch
abbrev pub b2 : List Record
b2 = screen_records 0 2 0 0 0 0 ++ command_records 0xC0003 6 7 4 6 0 0 0 1

abbrev pub b3 : List Record
b3 = screen_records 0 2 0 0 0 0 ++ command_records 0xC0002 1 0 4 6 0 0 0 1

-- admitted in a memory of 262,144 bytes, and applied to the line
pub b2_played : ((run 262144 new_chip 0 b2).number ≡ 0) × (applied new_chip b2 line8 ≡ 1 ∷ 1 ∷ 2 ∷ 3 ∷ 4 ∷ 5 ∷ 6 ∷ 7 ∷ [])
unfolding first_of get_pixel put_pixel bitwise pixels chip_line chip_lines chip_blit blit_of listed fits screen_after blit_after source_fits startable span within mix_by from_by job_of started admit_rows refusal due_after due_of chip_after effect new_chip run applied
b2_played = (refl, refl)

pub b3_played : ((run 262144 new_chip 0 b3).number ≡ 0) × (applied new_chip b3 line8 ≡ 2 ∷ 3 ∷ 4 ∷ 5 ∷ 6 ∷ 7 ∷ 8 ∷ 8 ∷ [])
unfolding first_of get_pixel put_pixel bitwise pixels chip_line chip_lines chip_blit blit_of listed fits screen_after blit_after source_fits startable span within mix_by from_by job_of started admit_rows refusal due_after due_of chip_after effect new_chip run applied
b3_played = (refl, refl)

-- ---- refusals of one record, the lowest number first

-- a chip that waits for data of a write of one pixel
abbrev waiting_chip : Chip
waiting_chip = record { screen = new_chip.screen; blit = new_chip.blit; due = record { any = true; line = 0; word = 0 } }

-- the chip with an operation set
abbrev armed : ℕ → Chip
armed command = chip_after new_chip (record_with 0x8008 command)

pub refusals_hold : (refusal 8 new_chip (record_with 0x60 0) ≡ 20)
    × (refusal 8 new_chip (record_with 0x8018 0x400) ≡ 21)
    × (refusal 8 (armed 1) (record_with 0x8000 1) ≡ 21)
    × (refusal 8 (chip_after (armed 0xC) (record_with 0x8010 8)) (record_with 0x8000 1) ≡ 22)
    × (refusal 8 new_chip (record_with 0x10000 0) ≡ 23)
    × (refusal 8 waiting_chip (record_with 0x10000 0x10000) ≡ 21)
    × (refusal 8 waiting_chip (record_with 0x8018 0x400) ≡ 21)
    × (refusal 8 waiting_chip (record_with 0x8018 0x3FF) ≡ 23)
    × (refusal 8 waiting_chip (record_with 0x10000 0xFFFF) ≡ 0)
    × (refusal 8 (chip_after (armed 0xC) (record_with 0x8010 7)) (record_with 0x8000 1) ≡ 0)
unfolding first_of listed fits screen_after blit_after source_fits startable span within admit_rows refusal due_after due_of chip_after new_chip
refusals_hold = (refl, refl, refl, refl, refl, refl, refl, refl, refl, refl)

-- ---- the fields of 8000h, and how far a blit reaches

-- a fill of three pixels of one byte, colour 9, from address a on
abbrev three : ℕ → List Record
three a = record_with 0x8008 0xC ∷ record_with 0x8010 a ∷ record_with 0x8018 2 ∷ record_with 0x8024 9 ∷ record_with 0x8000 1 ∷ []

pub fills_hold : (fits 0x8000 0x40001 ≡ true)
    × (fits 0x8000 0x20001 ≡ false)
    × (played 8 (stream_bytes (three 5)) line8 ≡ 1 ∷ 2 ∷ 3 ∷ 4 ∷ 5 ∷ 9 ∷ 9 ∷ 9 ∷ [])
    × ((playing 8 (stream_bytes (three 6)) line8).number ≡ 22)
    × (played 8 (stream_bytes (three 6)) line8 ≡ line8)
unfolding first_of record_bytes stream_bytes record_at records_from records_of get_pixel put_pixel bitwise pixels chip_line chip_lines chip_blit blit_of listed fits screen_after blit_after source_fits startable span within mix_by from_by job_of started admit_rows refusal due_after due_of chip_after effect new_chip run applied ending playing played
fills_hold = (refl, refl, refl, refl, refl)

-- ---- registers

-- the numbers that are taken, and some that are not
pub numbers : map listed (0x40 ∷ 0x44 ∷ 0x50 ∷ 0x54 ∷ 0x58 ∷ 0x5C ∷ 0x8000 ∷ 0x8008 ∷ 0x800C ∷ 0x8010 ∷ 0x8014 ∷ 0x8018 ∷ 0x801C ∷ 0x8020 ∷ 0x8024 ∷ 0x10000 ∷ [])
    ≡ true ∷ true ∷ true ∷ true ∷ true ∷ true ∷ true ∷ true ∷ true ∷ true ∷ true ∷ true ∷ true ∷ true ∷ true ∷ true ∷ []
unfolding listed
numbers = refl

pub no_numbers : map listed (0 ∷ 0x48 ∷ 0x4C ∷ 0x60 ∷ 0x8004 ∷ 0x8001 ∷ 0x8028 ∷ 0xFFFF ∷ 0x10001 ∷ [])
    ≡ false ∷ false ∷ false ∷ false ∷ false ∷ false ∷ false ∷ false ∷ false ∷ []
unfolding listed
no_numbers = refl

-- the last value of each field; 8000h and 8008h have two fields each
pub last_values : (fits 0x40 0xFFFF ∷ fits 0x44 0x3FF ∷ fits 0x50 0xFFFF ∷ fits 0x54 0x3FF ∷ fits 0x58 0x3FF03FF ∷ fits 0x5C 0x3FF03FF
    ∷ fits 0x8000 0x40001 ∷ fits 0x8008 0xF000F ∷ fits 0x800C 0x3FFFF ∷ fits 0x8010 0x3FFFF ∷ fits 0x8014 0x7FF ∷ fits 0x8018 0x3FF
    ∷ fits 0x801C 0x3FF ∷ fits 0x8020 0xFFFF ∷ fits 0x8024 0xFFFF ∷ fits 0x10000 0xFFFF ∷ [])
    ≡ true ∷ true ∷ true ∷ true ∷ true ∷ true ∷ true ∷ true ∷ true ∷ true ∷ true ∷ true ∷ true ∷ true ∷ true ∷ true ∷ []
unfolding fits
last_values = refl

pub next_values : (fits 0x40 0x10000 ∷ fits 0x44 0x400 ∷ fits 0x50 0x10000 ∷ fits 0x54 0x400 ∷ fits 0x58 0x400 ∷ fits 0x58 0x4000000 ∷ fits 0x5C 0x400 ∷ fits 0x5C 0x4000000
    ∷ fits 0x8000 2 ∷ fits 0x8000 0x80000 ∷ fits 0x8008 0x10 ∷ fits 0x8008 0x100000 ∷ fits 0x800C 0x40000 ∷ fits 0x8010 0x40000 ∷ fits 0x8014 0x800 ∷ fits 0x8018 0x400
    ∷ fits 0x801C 0x400 ∷ fits 0x8020 0x10000 ∷ fits 0x8024 0x10000 ∷ fits 0x10000 0x10000 ∷ [])
    ≡ false ∷ false ∷ false ∷ false ∷ false ∷ false ∷ false ∷ false ∷ false ∷ false ∷ false ∷ false ∷ false ∷ false ∷ false ∷ false ∷ false ∷ false ∷ false ∷ false ∷ []
unfolding fits
next_values = refl

-- all registers begin at 0, and each keeps the value that is written to it
pub begins : new_chip
    ≡ record {
      screen = record { main = record { start = 0; offset = 0 }; window = record { start = 0; offset = 0 }; x = 0; y = 0 };
      blit = record { control = 0; command = 0; source = 0; destination = 0; offset = 0; width = 0; height = 0; background = 0; foreground = 0 };
      due = record { any = false; line = 0; word = 0 };
    }
unfolding new_chip
begins = refl

pub keeps : run 262144 new_chip 0 (screen_records 1 2 3 4 5 6 ++ command_records 0xC 8 9 10 11 12 13 14 0)
    ≡ reached
    (record {
      screen = record { main = record { start = 1; offset = 2 }; window = record { start = 3; offset = 4 }; x = 5; y = 6 };
      blit = record { control = 0; command = 0xC; source = 8; destination = 9; offset = 10; width = 11; height = 12; background = 13; foreground = 14 };
      due = record { any = false; line = 0; word = 0 };
    })
unfolding first_of listed fits screen_after blit_after source_fits startable span within admit_rows refusal due_after due_of chip_after new_chip run
keeps = refl

-- each field is read by its bits, up to its last value
abbrev full : Registers
full = record { control = 0x40001; command = 0xF000F; source = 0x3FFFF; destination = 0x3FFFE; offset = 0x7FF; width = 0x3FF; height = 0x3FE; background = 0xFFFF; foreground = 0xFFFF }

pub reads : operation full ∷ raster_code full ∷ bytes_of full ∷ source_of full ∷ destination_of full ∷ line_of full ∷ width_of full ∷ height_of full ∷ foreground_of full ∷ key_of full ∷ []
    ≡ 15 ∷ 15 ∷ 2 ∷ 0x3FFFF ∷ 0x3FFFE ∷ 0xFFE ∷ 1024 ∷ 1023 ∷ 0xFFFF ∷ 0xFFFF ∷ []
reads = refl

-- a key colour has the bits of a pixel; control 0 is depth 8, 40000h depth 16
abbrev keyed_by : ℕ → ℕ → Registers
keyed_by control key = record { control = control; command = 7; source = 0; destination = 0; offset = 0; width = 0; height = 0; background = key; foreground = 0 }

pub keys : key_of (keyed_by 0 0x12) ∷ key_of (keyed_by 0 0xFF12) ∷ key_of (keyed_by 0x40000 0x12) ∷ key_of (keyed_by 0x40000 0xFF12) ∷ []
    ≡ 0x12 ∷ 0x12 ∷ 0x12 ∷ 0xFF12 ∷ []
keys = refl

-- 002 table 9-4, the pattern's base, line and pixel, bit by bit. Values with all three: 3C023h of 002's examples 16 and 17, and one at depth 16.
abbrev pattern_in : ℕ → ℕ → List ℕ
pattern_in control source =
    let b : Registers = record { control = control; command = 6; source = source; destination = 0; offset = 0; width = 0; height = 0; background = 0; foreground = 0 } in
    pattern_base b ∷ pattern_line b ∷ pattern_column b ∷ []

pub pattern_bits_8 : map (pattern_in 0) (1 ∷ 2 ∷ 4 ∷ 8 ∷ 0x10 ∷ 0x20 ∷ 0x40 ∷ 0x80 ∷ 0x3FFC0 ∷ 0x3C023 ∷ [])
    ≡ (0 ∷ 0 ∷ 1 ∷ []) ∷ (0 ∷ 0 ∷ 2 ∷ []) ∷ (0 ∷ 0 ∷ 4 ∷ [])
    ∷ (0 ∷ 1 ∷ 0 ∷ []) ∷ (0 ∷ 2 ∷ 0 ∷ []) ∷ (0 ∷ 4 ∷ 0 ∷ [])
    ∷ (0x40 ∷ 0 ∷ 0 ∷ []) ∷ (0x80 ∷ 0 ∷ 0 ∷ []) ∷ (0x3FFC0 ∷ 0 ∷ 0 ∷ [])
    ∷ (0x3C000 ∷ 4 ∷ 3 ∷ [])
    ∷ []
pattern_bits_8 = refl

pub pattern_bits_16 : map (pattern_in 0x40000) (1 ∷ 2 ∷ 4 ∷ 8 ∷ 0x10 ∷ 0x20 ∷ 0x40 ∷ 0x80 ∷ 0x100 ∷ 0x3FF80 ∷ 0x2A0D6 ∷ [])
    ≡ (0 ∷ 0 ∷ 0 ∷ []) ∷ (0 ∷ 0 ∷ 1 ∷ []) ∷ (0 ∷ 0 ∷ 2 ∷ []) ∷ (0 ∷ 0 ∷ 4 ∷ [])
    ∷ (0 ∷ 1 ∷ 0 ∷ []) ∷ (0 ∷ 2 ∷ 0 ∷ []) ∷ (0 ∷ 4 ∷ 0 ∷ [])
    ∷ (0x80 ∷ 0 ∷ 0 ∷ []) ∷ (0x100 ∷ 0 ∷ 0 ∷ []) ∷ (0x3FF80 ∷ 0 ∷ 0 ∷ [])
    ∷ (0x2A080 ∷ 5 ∷ 3 ∷ [])
    ∷ []
pattern_bits_16 = refl

-- ---- starts

-- the refusal of a start with these registers in a memory of m bytes: operation and raster code, source, destination, width and height less
-- one; lines four bytes apart
abbrev started_in : ℕ → ℕ → ℕ → ℕ → ℕ → ℕ → ℕ → ℕ
started_in m command source destination width height control =
    refusal m
    (record {
      screen = new_chip.screen;
      blit = record { control = 0; command = command; source = source; destination = destination; offset = 2; width = width; height = height; background = 0; foreground = 0 };
      due = new_chip.due;
    })
    (record_with 0x8000 control)

-- in a memory of eight bytes
abbrev started_by : ℕ → ℕ → ℕ → ℕ → ℕ → ℕ → ℕ
started_by command source destination width height control = started_in 8 command source destination width height control

-- 21: operations other than the model's; a write with a source start; odd addresses that are used at depth 16
pub starts_known : started_by 0 0 0 0 0 1 ∷ started_by 2 0 0 0 0 1 ∷ started_by 3 0 0 0 0 1 ∷ started_by 0xC 0 0 0 0 1
    ∷ started_by 1 0 0 0 0 1 ∷ started_by 4 0 0 0 0 1 ∷ started_by 0xD 0 0 0 0 1
    ∷ started_by 0 1 0 0 0 1 ∷ started_by 0 2 0 0 0 1 ∷ started_by 0xC 1 0 0 0 1
    ∷ started_by 0xC 0 1 0 0 0x40001 ∷ started_by 0xC 1 0 0 0 0x40001 ∷ started_by 2 1 0 0 0 0x40001 ∷ started_by 2 0 1 0 0 0x40001 ∷ started_by 0 0 1 0 0 0x40001
    ∷ started_by 4 0 0 0 0 0
    ∷ []
    ≡ 0 ∷ 0 ∷ 0 ∷ 0
    ∷ 21 ∷ 21 ∷ 21
    ∷ 21 ∷ 21 ∷ 0
    ∷ 21 ∷ 0 ∷ 21 ∷ 21 ∷ 21
    ∷ 0
    ∷ []
unfolding first_of listed fits screen_after blit_after source_fits startable span within admit_rows refusal due_after due_of chip_after new_chip
starts_known = refl

-- 21 in a memory of 128 bytes: 5, 6 and 7 are operations of the model, and 4, 8 or Bh are not; odd addresses, of the pattern too, are refused at
-- depth 16 alone
pub patterns_known : map (λ n. started_in 128 n 0 0 0 0 1) (5 ∷ 6 ∷ 7 ∷ 1 ∷ 4 ∷ 8 ∷ 9 ∷ 0xA ∷ 0xB ∷ 0xD ∷ 0xE ∷ 0xF ∷ [])
    ∷ map (λ n. started_in 128 n 1 0 0 0 1) (5 ∷ 6 ∷ 7 ∷ [])
    ∷ map (λ n. started_in 128 n 1 0 0 0 0x40001) (5 ∷ 6 ∷ 7 ∷ [])
    ∷ map (λ n. started_in 128 n 0 1 0 0 1) (5 ∷ 6 ∷ 7 ∷ [])
    ∷ map (λ n. started_in 128 n 0 1 0 0 0x40001) (5 ∷ 6 ∷ 7 ∷ [])
    ∷ map (λ n. started_in 128 n 2 2 0 0 0x40001) (5 ∷ 6 ∷ 7 ∷ [])
    ∷ []
    ≡ (0 ∷ 0 ∷ 0 ∷ 21 ∷ 21 ∷ 21 ∷ 21 ∷ 21 ∷ 21 ∷ 21 ∷ 21 ∷ 21 ∷ [])
    ∷ (0 ∷ 0 ∷ 0 ∷ [])
    ∷ (21 ∷ 21 ∷ 21 ∷ [])
    ∷ (0 ∷ 0 ∷ 0 ∷ [])
    ∷ (21 ∷ 21 ∷ 21 ∷ [])
    ∷ (0 ∷ 0 ∷ 0 ∷ [])
    ∷ []
unfolding first_of listed fits screen_after blit_after source_fits startable span within admit_rows refusal due_after due_of chip_after new_chip
patterns_known = refl

-- 22: a byte past the memory, or below it in negative direction: of the destination under each operation, and of a move's source alone. Two
-- lines of three pixels reach six bytes on, of wide pixels eight.
pub starts_inside : started_by 0xC 0 1 2 1 1 ∷ started_by 0xC 0 2 2 1 1
    ∷ started_by 0 0 1 2 1 1 ∷ started_by 0 0 2 2 1 1
    ∷ started_by 2 1 1 2 1 1 ∷ started_by 2 1 2 2 1 1 ∷ started_by 2 2 1 2 1 1
    ∷ started_by 3 7 6 2 1 1 ∷ started_by 3 7 5 2 1 1 ∷ started_by 3 5 7 2 1 1 ∷ started_by 3 7 8 2 1 1 ∷ started_by 3 8 7 2 1 1
    ∷ started_by 0xC 0 0 1 1 0x40001 ∷ started_by 0xC 0 2 1 1 0x40001 ∷ started_by 3 6 6 1 1 0x40001 ∷ started_by 3 6 8 1 1 0x40001
    ∷ []
    ≡ 0 ∷ 22
    ∷ 0 ∷ 22
    ∷ 0 ∷ 22 ∷ 22
    ∷ 0 ∷ 22 ∷ 22 ∷ 22 ∷ 22
    ∷ 0 ∷ 22 ∷ 0 ∷ 22
    ∷ []
unfolding first_of listed fits screen_after blit_after source_fits startable span within admit_rows refusal due_after due_of chip_after new_chip
starts_inside = refl

-- 22 under 5, 6 and 7, in memories of 64 to 128 bytes: a byte past the memory of the destination, of 5's source, or of the pattern, all of which
-- is read wherever its first pixel stands
pub patterns_inside : map (λ n. started_in 64 n 0 57 2 1 1) (5 ∷ 6 ∷ 7 ∷ [])
    ∷ map (λ n. started_in 64 n 0 58 2 1 1) (5 ∷ 6 ∷ 7 ∷ [])
    ∷ map (λ n. started_in 64 n 58 0 2 1 1) (5 ∷ 6 ∷ 7 ∷ [])
    ∷ map (λ n. started_in 127 n 64 0 2 1 1) (5 ∷ 6 ∷ 7 ∷ [])
    ∷ map (λ n. started_in 128 n 127 0 0 0 1) (5 ∷ 6 ∷ 7 ∷ [])
    ∷ map (λ n. started_in 128 n 126 0 0 0 0x40001) (5 ∷ 6 ∷ 7 ∷ [])
    ∷ map (λ n. started_in 127 n 0 0 0 0 0x40001) (5 ∷ 6 ∷ 7 ∷ [])
    ∷ map (λ n. started_in 128 n 0 120 1 1 0x40001) (5 ∷ 6 ∷ 7 ∷ [])
    ∷ map (λ n. started_in 128 n 0 122 1 1 0x40001) (5 ∷ 6 ∷ 7 ∷ [])
    ∷ []
    ≡ (0 ∷ 0 ∷ 0 ∷ [])
    ∷ (22 ∷ 22 ∷ 22 ∷ [])
    ∷ (22 ∷ 0 ∷ 0 ∷ [])
    ∷ (0 ∷ 22 ∷ 22 ∷ [])
    ∷ (0 ∷ 0 ∷ 0 ∷ [])
    ∷ (0 ∷ 0 ∷ 0 ∷ [])
    ∷ (0 ∷ 22 ∷ 22 ∷ [])
    ∷ (0 ∷ 0 ∷ 0 ∷ [])
    ∷ (22 ∷ 22 ∷ 22 ∷ [])
    ∷ []
unfolding first_of listed fits screen_after blit_after source_fits startable span within admit_rows refusal due_after due_of chip_after new_chip
patterns_inside = refl

-- ---- two rows that fail at once

-- 20 and 21 and 23 in one record that comes while data is due; 21 and 22; 22 and 23
pub first_of_two : refusal 8 waiting_chip (record_with 0x60 0xFFFFFFFF)
    ∷ started_by 1 0 8 0 0 1
    ∷ refusal 8 (record { screen = new_chip.screen; blit = (chip_after (armed 0xC) (record_with 0x8010 8)).blit; due = waiting_chip.due }) (record_with 0x8000 1)
    ∷ []
    ≡ 20 ∷ 21 ∷ 22 ∷ []
unfolding first_of listed fits screen_after blit_after source_fits startable span within admit_rows refusal due_after due_of chip_after new_chip
first_of_two = refl

-- playing's number and place over eight bytes
abbrev told : List ℕ → List ℕ → List ℕ
told stream memory = let p = playing 8 stream memory in p.number ∷ p.place ∷ []

-- a write of one pixel at address 0, without its word
abbrev waiting : List Record
waiting = record_with 0x40 7 ∷ record_with 0x8000 1 ∷ []

-- 18 and 19 at once; 19 and 20; an early 23 and a later 20; a later 20 before the end's 23; the end's 23, at the record count
pub in_order : told (stream_bytes waiting ++ (0 ∷ [])) (0 ∷ line8)
    ∷ told (stream_bytes (record_with 0x60 0 ∷ []) ++ (0 ∷ [])) line8
    ∷ told (stream_bytes (record_with 0x40 0 ∷ record_with 0x10000 0 ∷ record_with 0x60 0 ∷ [])) line8
    ∷ told (stream_bytes (waiting ++ (record_with 0x60 0 ∷ []))) line8
    ∷ told (stream_bytes waiting) line8
    ∷ told (stream_bytes (waiting ++ (record_with 0x10000 9 ∷ []))) line8
    ∷ []
    ≡ (18 ∷ 0 ∷ [])
    ∷ (19 ∷ 0 ∷ [])
    ∷ (23 ∷ 1 ∷ [])
    ∷ (20 ∷ 2 ∷ [])
    ∷ (23 ∷ 2 ∷ [])
    ∷ (0 ∷ 0 ∷ [])
    ∷ []
unfolding first_of record_bytes stream_bytes record_at records_from records_of listed fits screen_after blit_after source_fits startable span within admit_rows refusal due_after due_of chip_after new_chip run ending playing
in_order = refl

-- 23 at record 2
abbrev waited : Refused
waited = record { refusal = DataWord; place = 2 }

-- all other numbers of a refusal are 0, also where screen registers were written before it; and the answers with such numbers
pub refused_whole : (playing 8 (stream_bytes waiting) line8
    ≡ record { number = 23; place = 2; values = record { main = record { start = 0; offset = 0 }; window = record { start = 0; offset = 0 }; x = 0; y = 0 } })
    × (answer_of (playing 8 (stream_bytes waiting) line8) ≡ Err waited)
    × (playing_of (Err waited) ≡ playing 8 (stream_bytes waiting) line8)
    × (played 8 (stream_bytes waiting) line8 ≡ line8)
unfolding first_of record_bytes stream_bytes record_at records_from records_of listed fits screen_after blit_after source_fits startable span within admit_rows refusal due_after due_of chip_after new_chip run ending playing played playing_by answer_of refusals.answered_at refusals.number refusals.refusal
refused_whole = (refl, refl, refl, refl)

-- ---- a write, played: two lines of three pixels from address 1, four bytes apart, under exclusive or. Each line takes two words, the low
-- byte first, and the last byte is spare.
abbrev write : List Record
write =
    record_with 0x8008 0x60000 ∷ record_with 0x8010 1 ∷ record_with 0x8014 2 ∷ record_with 0x8018 2 ∷ record_with 0x801C 1 ∷ record_with 0x8000 1
    ∷ record_with 0x10000 0x0201 ∷ record_with 0x10000 0xFF03 ∷ record_with 0x10000 0x0504 ∷ record_with 0x10000 0xFF06 ∷ []

pub write_played : ((playing 8 (stream_bytes write) line8).number ≡ 0)
    × (played 8 (stream_bytes write) line8 ≡ 1 ∷ 3 ∷ 1 ∷ 7 ∷ 5 ∷ 2 ∷ 2 ∷ 14 ∷ [])
unfolding first_of record_bytes stream_bytes record_at records_from records_of get_pixel put_pixel bitwise pixels chip_line chip_lines chip_blit blit_of word_pixel chip_word listed fits screen_after blit_after source_fits startable span within mix_by from_by job_of write_of started admit_rows refusal due_after due_of chip_after effect new_chip run applied ending playing played
write_played = (refl, refl)

-- at depth 16: a fill of two pixels from address 2 with FF0Fh, then a move of one pixel from 0 to 4 under exclusive or
abbrev wide : List Record
wide =
    record_with 0x8008 0xC ∷ record_with 0x8010 2 ∷ record_with 0x8018 1 ∷ record_with 0x8024 0xFF0F ∷ record_with 0x8000 0x40001
    ∷ record_with 0x8008 0x60002 ∷ record_with 0x8010 4 ∷ record_with 0x8018 0 ∷ record_with 0x8000 0x40001 ∷ []

pub wide_played : ((playing 8 (stream_bytes wide) line8).number ≡ 0)
    × (played 8 (stream_bytes wide) line8 ≡ 1 ∷ 2 ∷ 0x0F ∷ 0xFF ∷ 0x0E ∷ 0xFD ∷ 7 ∷ 8 ∷ [])
unfolding first_of record_bytes stream_bytes record_at records_from records_of get_pixel put_pixel bitwise pixels chip_line chip_lines chip_blit blit_of listed fits screen_after blit_after source_fits startable span within mix_by from_by job_of started admit_rows refusal due_after due_of chip_after effect new_chip run applied ending playing played
wide_played = (refl, refl)

-- a write at depth 16: two pixels from address 4, a word each
abbrev wide_write : List Record
wide_write =
    record_with 0x8008 0xC0000 ∷ record_with 0x8010 4 ∷ record_with 0x8018 1 ∷ record_with 0x8000 0x40001 ∷ record_with 0x10000 0x0201 ∷ record_with 0x10000 0x0403 ∷ []

pub wide_written : ((playing 8 (stream_bytes wide_write) line8).number ≡ 0) × (played 8 (stream_bytes wide_write) line8 ≡ 1 ∷ 2 ∷ 3 ∷ 4 ∷ 1 ∷ 2 ∷ 3 ∷ 4 ∷ [])
unfolding first_of record_bytes stream_bytes record_at records_from records_of get_pixel put_pixel bitwise pixels word_pixel chip_word listed fits screen_after blit_after source_fits startable span within mix_by write_of started admit_rows refusal due_after due_of chip_after effect new_chip run applied ending playing played
wide_written = (refl, refl)

-- ---- the table of operations, cell by cell: write, up, down, transparent move, pattern, pattern with key, fill, and one that the model has not
abbrev with_command : ℕ → Registers
with_command v = record { control = 0; command = v; source = 5; destination = 9; offset = 4; width = 0; height = 0; background = 0x103; foreground = 7 }

abbrev operations : List ℕ
operations = 0x60000 ∷ 0x60002 ∷ 0x60003 ∷ 0x60005 ∷ 0x60006 ∷ 0x60007 ∷ 0x6000C ∷ 0x60001 ∷ []

pub cells : (map (λ v. mix_by (with_command v)) operations ≡ Raster 6 ∷ Raster 6 ∷ Raster 6 ∷ Key 3 ∷ Raster 6 ∷ Key 3 ∷ Store ∷ Store ∷ [])
    × (map (λ v. from_by (with_command v)) operations ≡ Colour 0 ∷ Memory 5 ∷ Memory 5 ∷ Memory 5 ∷ Pattern 0 5 0 ∷ Pattern 0 5 0 ∷ Colour 7 ∷ Colour 0 ∷ [])
    × (map (λ v. within 9 (with_command v)) operations ≡ false ∷ false ∷ false ∷ false ∷ false ∷ false ∷ false ∷ true ∷ [])
    × (map (λ v. within 10 (with_command v)) operations ≡ true ∷ true ∷ true ∷ true ∷ false ∷ false ∷ true ∷ true ∷ [])
    × (map (λ v. within 64 (with_command v)) operations ≡ true ∷ true ∷ true ∷ true ∷ true ∷ true ∷ true ∷ true ∷ [])
    × (map (λ v. source_fits (with_command v)) operations ≡ false ∷ true ∷ true ∷ true ∷ true ∷ true ∷ true ∷ false ∷ [])
    × (started (with_command 0x60001) line8 ≡ line8)
unfolding mix_by from_by span within source_fits started
cells = (refl, refl, refl, refl, refl, refl, refl)

-- the numbers of a run, of which the record 2 is refused, and of one without a refusal
pub run_numbers : (running_of (record { chip = new_chip; refused = Some waited }) ≡ record { number = 23; place = 2; chip = new_chip })
    × (running_of (record { chip = new_chip; refused = None }) ≡ record { number = 0; place = 0; chip = new_chip })
unfolding running_of refusals.number_at refusals.place_at refusals.number
run_numbers = (refl, refl)
