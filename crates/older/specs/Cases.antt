-- 001's examples 1 to 8 (001 sections 7.2 and 8.3), byte for byte; and the S1D13706's limits, whose numbers were worked out by hand from 02, d).
use Rattle.std.specs.Prelude.{ℕ, List, [], ◌∷◌, replicate}
use Rattle.screen.specs.Cases.{Case, case, lined, plain, window_lined}
use Rattle.screen.specs.Values.{six_values}
use Rattle.command.specs.Task.{short_form, long_form, Task, task, screen_in}
use Rattle.older.specs.Bytes.{older_values}
use Rattle.older.specs.Compile.{older_records, registers_in, bytes_in, older_compiling}

-- a screen without list and host words
abbrev alone : List ℕ → Task
alone screen = task short_form screen [] []

-- compiling's answer, 18 records having 144 bytes, and the bytes that are written
abbrev written : List ℕ → List ℕ
written screen =
    let c = older_compiling (alone screen) 144 in
    c.number ∷ c.length ∷ c.depth ∷ c.rotation ∷ c.flag ∷ bytes_in (older_records (screen_in (alone screen)))

-- the refusal number of a screen, a list of so many bytes in a form, so many host words and a stream buffer of so many bytes
abbrev number_in : ℕ → List ℕ → ℕ → ℕ → ℕ → List ℕ
number_in form screen list words room = (older_compiling (task form screen (replicate list 0) (replicate words 0)) room).number ∷ []

abbrev number : List ℕ → ℕ → ℕ → ℕ → List ℕ
number = number_in short_form

-- 001's panel, 320 by 240 at depth 4, its main image at 0; and with the sub-window's image at 9600h, at (x, y) and of that width and height
abbrev panel : ℕ → List ℕ
panel rotation = plain 4 rotation 320 240 0

abbrev sub : ℕ → ℕ → ℕ → ℕ → ℕ → List ℕ
sub rotation x y width height = window_lined rotation x y width height 0 0x9600 0 0

unfoldable pub example_cases : List Case
example_cases =
    -- the registers, in rising number
    case (registers_in (older_records (screen_in (alone (panel 0)))))
    (0x74 ∷ 0x75 ∷ 0x76 ∷ 0x78 ∷ 0x79 ∷ 0x7C ∷ 0x7D ∷ 0x7E ∷ 0x80 ∷ 0x81 ∷ 0x84 ∷ 0x85 ∷ 0x88 ∷ 0x89 ∷ 0x8C ∷ 0x8D ∷ 0x90 ∷ 0x91 ∷ [])
    -- examples 1 to 4: the number, the length, depth, rotation and flag; 74h-76h, 78h-79h; the window's bytes, which are 0
    ∷ case (written (panel 0))
    (0 ∷ 144 ∷ 4 ∷ 0 ∷ 0
    ∷ 0x00 ∷ 0x00 ∷ 0x00 ∷ 0x28 ∷ 0x00
    ∷ 0 ∷ 0 ∷ 0 ∷ 0 ∷ 0 ∷ 0 ∷ 0 ∷ 0 ∷ 0 ∷ 0 ∷ 0 ∷ 0 ∷ 0 ∷ [])
    ∷ case (written (panel 1))
    (0 ∷ 144 ∷ 4 ∷ 1 ∷ 0
    ∷ 0x1D ∷ 0x00 ∷ 0x00 ∷ 0x1E ∷ 0x00
    ∷ 0 ∷ 0 ∷ 0 ∷ 0 ∷ 0 ∷ 0 ∷ 0 ∷ 0 ∷ 0 ∷ 0 ∷ 0 ∷ 0 ∷ 0 ∷ [])
    ∷ case (written (panel 2))
    (0 ∷ 144 ∷ 4 ∷ 2 ∷ 0
    ∷ 0x7F ∷ 0x25 ∷ 0x00 ∷ 0x28 ∷ 0x00
    ∷ 0 ∷ 0 ∷ 0 ∷ 0 ∷ 0 ∷ 0 ∷ 0 ∷ 0 ∷ 0 ∷ 0 ∷ 0 ∷ 0 ∷ 0 ∷ [])
    ∷ case (written (panel 3))
    (0 ∷ 144 ∷ 4 ∷ 3 ∷ 0
    ∷ 0x62 ∷ 0x25 ∷ 0x00 ∷ 0x1E ∷ 0x00
    ∷ 0 ∷ 0 ∷ 0 ∷ 0 ∷ 0 ∷ 0 ∷ 0 ∷ 0 ∷ 0 ∷ 0 ∷ 0 ∷ 0 ∷ 0 ∷ [])
    -- examples 5 to 8: 74h-76h, 78h-79h; 7Ch-7Eh, 80h-81h; 84h-85h, 88h-89h, 8Ch-8Dh, 90h-91h
    ∷ case (written (sub 0 80 60 160 120))
    (0 ∷ 144 ∷ 4 ∷ 0 ∷ 1
    ∷ 0x00 ∷ 0x00 ∷ 0x00 ∷ 0x28 ∷ 0x00
    ∷ 0x80 ∷ 0x25 ∷ 0x00 ∷ 0x14 ∷ 0x00
    ∷ 0x0A ∷ 0x00 ∷ 0x3C ∷ 0x00 ∷ 0x1D ∷ 0x00 ∷ 0xB3 ∷ 0x00 ∷ [])
    ∷ case (written (sub 1 64 80 120 160))
    (0 ∷ 144 ∷ 4 ∷ 1 ∷ 1
    ∷ 0x1D ∷ 0x00 ∷ 0x00 ∷ 0x1E ∷ 0x00
    ∷ 0x8E ∷ 0x25 ∷ 0x00 ∷ 0x0F ∷ 0x00
    ∷ 0x50 ∷ 0x00 ∷ 0x07 ∷ 0x00 ∷ 0xEF ∷ 0x00 ∷ 0x15 ∷ 0x00 ∷ [])
    ∷ case (written (sub 2 80 60 160 120))
    (0 ∷ 144 ∷ 4 ∷ 2 ∷ 1
    ∷ 0x7F ∷ 0x25 ∷ 0x00 ∷ 0x28 ∷ 0x00
    ∷ 0xDF ∷ 0x2E ∷ 0x00 ∷ 0x14 ∷ 0x00
    ∷ 0x0A ∷ 0x00 ∷ 0x3C ∷ 0x00 ∷ 0x1D ∷ 0x00 ∷ 0xB3 ∷ 0x00 ∷ [])
    ∷ case (written (sub 3 64 80 120 160))
    (0 ∷ 144 ∷ 4 ∷ 3 ∷ 1
    ∷ 0x62 ∷ 0x25 ∷ 0x00 ∷ 0x1E ∷ 0x00
    ∷ 0xD1 ∷ 0x2E ∷ 0x00 ∷ 0x0F ∷ 0x00
    ∷ 0x50 ∷ 0x00 ∷ 0x08 ∷ 0x00 ∷ 0xEF ∷ 0x00 ∷ 0x16 ∷ 0x00 ∷ [])
    ∷ []

unfoldable pub older_cases : List Case
older_cases =
    -- the last base of an image of 81,920 bytes, of main and of a window of 9,600, and the next
    case (number (plain 1 0 1024 640 0) 0 0 144) (0 ∷ [])
    ∷ case (number (plain 1 0 1024 640 4) 0 0 144) (6 ∷ [])
    ∷ case (number (window_lined 0 80 60 160 120 0 72320 0 0) 0 0 144) (0 ∷ [])
    ∷ case (number (window_lined 0 80 60 160 120 0 72324 0 0) 0 0 144) (9 ∷ [])
    -- lines of 640 pixels: the bytes of an offset of 50h, and of a start of (239 × 320 + 160) ÷ 4 − 1
    ∷ case (written (lined 4 2 320 240 0 640))
    (0 ∷ 144 ∷ 4 ∷ 2 ∷ 0
    ∷ 0xD7 ∷ 0x4A ∷ 0x00 ∷ 0x50 ∷ 0x00
    ∷ 0 ∷ 0 ∷ 0 ∷ 0 ∷ 0 ∷ 0 ∷ 0 ∷ 0 ∷ 0 ∷ 0 ∷ 0 ∷ 0 ∷ 0 ∷ [])
    -- an offset above FFh: lines of 1,023 dwords
    ∷ case (written (lined 4 0 320 8 0 8184))
    (0 ∷ 144 ∷ 4 ∷ 0 ∷ 0
    ∷ 0x00 ∷ 0x00 ∷ 0x00 ∷ 0xFF ∷ 0x03
    ∷ 0 ∷ 0 ∷ 0 ∷ 0 ∷ 0 ∷ 0 ∷ 0 ∷ 0 ∷ 0 ∷ 0 ∷ 0 ∷ 0 ∷ 0 ∷ [])
    -- a list of one command, at depth 8 and at depth 4; 65 commands; half a command; a host word; 143 bytes of room
    ∷ case (number (plain 8 0 320 240 0) 32 0 144) (11 ∷ [])
    ∷ case (number (panel 0) 32 0 144) (11 ∷ [])
    ∷ case (number (panel 0) 2048 0 144) (11 ∷ [])
    ∷ case (number (panel 0) 2080 0 144) (10 ∷ [])
    ∷ case (number (panel 0) 16 0 144) (10 ∷ [])
    ∷ case (number (panel 0) 0 1 144) (16 ∷ [])
    ∷ case (number (panel 0) 0 0 143) (17 ∷ [])
    -- in the long form (02, g) one command, 64 and 65; a short command as a long list, and the other way round; a form that there is not, with no list and
    -- before 11
    ∷ case (number_in long_form (panel 0) 48 0 144) (11 ∷ [])
    ∷ case (number_in long_form (panel 0) 3072 0 144) (11 ∷ [])
    ∷ case (number_in long_form (panel 0) 3120 0 144) (10 ∷ [])
    ∷ case (number_in long_form (panel 0) 32 0 144) (10 ∷ [])
    ∷ case (number (panel 0) 48 0 144) (10 ∷ [])
    ∷ case (number_in 0 (panel 0) 0 0 144) (10 ∷ [])
    ∷ case (number_in 96 (panel 0) 96 0 144) (10 ∷ [])
    -- of two checks that fail at once the first in the order 1 to 9 and 26, 10, 11, 16, 17 is given
    ∷ case (number (plain 1 0 1024 640 4) 16 0 144) (6 ∷ [])
    ∷ case (number (lined 4 0 320 8 0 8192) 32 0 144) (26 ∷ [])
    ∷ case (number (panel 0) 33 1 144) (10 ∷ [])
    ∷ case (number (panel 0) 32 1 144) (11 ∷ [])
    ∷ case (number (panel 0) 0 1 0) (16 ∷ [])
    -- all other numbers of a refusal are 0
    ∷ case
    (let c = older_compiling (task short_form (panel 1) (replicate 32 0) []) 144 in c.number ∷ c.place ∷ c.length ∷ c.depth ∷ c.rotation ∷ c.flag ∷ [])
    (11 ∷ 0 ∷ 0 ∷ 0 ∷ 0 ∷ 0 ∷ [])
    -- six values from eighteen bytes: nothing is masked
    ∷ case
    (six_values (older_values (1 ∷ 2 ∷ 3 ∷ 4 ∷ 5 ∷ 6 ∷ 7 ∷ 8 ∷ 9 ∷ 10 ∷ 11 ∷ 12 ∷ 13 ∷ 14 ∷ 15 ∷ 16 ∷ 17 ∷ 18 ∷ [])))
    (0x030201 ∷ 0x0504 ∷ 0x080706 ∷ 0x0A09 ∷ 0x100F0C0B ∷ 0x12110E0D ∷ [])
    ∷ case (six_values (older_values (replicate 18 255))) (0xFFFFFF ∷ 0xFFFF ∷ 0xFFFFFF ∷ 0xFFFF ∷ 0xFFFFFFFF ∷ 0xFFFFFFFF ∷ [])
    ∷ []
