-- 01's cases S1 to S9 and B1 to B3 (01, "Cases"), those of line lengths (02, c), of the S1D13706 (02, d), of where a point's pixel
-- stands (02, e), of the long form (02, g), of patterns and key colours (02, h), and of panel lines (02, i) as one list.
use Rattle.std.specs.Prelude.{ℕ, List, [], ◌∷◌, ◌++◌, take, drop, replicate}
use Rattle.record.specs.Bytes.{two_bytes, four_bytes}
use Rattle.record.specs.Lists.{tabulate}
use Rattle.record.specs.Record.{records_of}
use Rattle.record.specs.declared.Record.{Record}
use Rattle.screen.specs.Cases.{Case, case, screen_cases, line_cases, lined, plain, with_window}
use Rattle.screen.specs.Screen.{memory_size, fields_of}
use Rattle.screen.specs.Values.{values_of}
use Rattle.reader.specs.Read.{display_of, looked_at, address_at, bit_at}
use Rattle.reader.specs.Line.{line_number, line_after}
use Rattle.command.specs.Command.{command_bytes}
use Rattle.command.specs.Task.{short_form, long_form, task, commands_in}
use Rattle.compiler.specs.Compile.{compiling, stream_of}
use Rattle.older.specs.Cases.{example_cases, older_cases}
use Rattle.chip.specs.Play.{new_chip, run, applied}
use Rattle.unit.specs.Sheet.{sheet_commands, shown_address, shown_place}

-- a command record: operation, raster code, rectangle, source, colour; on the main image
abbrev pub command : ℕ → ℕ → ℕ → ℕ → ℕ → ℕ → ℕ → ℕ → ℕ → List ℕ
command operation raster x y width height sx sy colour =
    command_bytes (record { operation = operation; surface = 0; raster = raster; x = x; y = y; width = width; height = height; sx = sx; sy = sy; colour = colour; key = 0; px = 0; py = 0; pattern = 0 })

-- the numbers and values of records
abbrev pairs : List Record → List ℕ
pairs [] = []
pairs (r ∷ rs) = r.number ∷ r.value ∷ pairs rs

-- the records of a list in a form without host words
abbrev records_in : ℕ → List ℕ → List ℕ → List Record
records_in form screen list = records_of (stream_of (task form screen list []))

abbrev records : List ℕ → List ℕ → List Record
records = records_in short_form

-- what compiling gives: its number, the stream's length, and every record's number and value
abbrev compiled_in : ℕ → List ℕ → List ℕ → List ℕ
compiled_in form screen list =
    let c = compiling memory_size (task form screen list []) 1024 in c.number ∷ c.length ∷ pairs (records_in form screen list)

abbrev compiled : List ℕ → List ℕ → List ℕ
compiled = compiled_in short_form

-- a move of 7 by 1 pixels on B2's screen, from x = from to x = to with code Ch: compiling's number and playing's, for a memory of 262,144
-- bytes; operation, source and destination; then the line of eight bytes, which alone is drawn on, afterwards: by playing and on the sheet
abbrev moved : ℕ → ℕ → List ℕ
moved from to =
    let screen = plain 8 0 8 1 0 in
    let list = command 1 0xC to 0 7 1 from 0 0 in
    let line : List ℕ = 1 ∷ 2 ∷ 3 ∷ 4 ∷ 5 ∷ 6 ∷ 7 ∷ 8 ∷ [] in
    (compiling memory_size (task short_form screen list []) 1024).number
    ∷ (run memory_size new_chip 0 (records screen list)).number
    ∷ pairs (take 3 (drop 6 (records screen list)))
    ++ applied new_chip (records screen list) line
    ++ sheet_commands (fields_of screen) (commands_in (task short_form screen list [])) [] line

unfoldable pub draw_cases : List Case
draw_cases =
    -- B1, whole: accepted, fifteen records, the screen's six and the fill's nine
    case (compiled (plain 8 0 320 240 0) (command 0 0 10 20 100 150 0 0 1))
    (0 ∷ 120
    ∷ 0x40 ∷ 0 ∷ 0x44 ∷ 0x50 ∷ 0x50 ∷ 0 ∷ 0x54 ∷ 0 ∷ 0x58 ∷ 0 ∷ 0x5C ∷ 0
    ∷ 0x8008 ∷ 0x0C ∷ 0x800C ∷ 0 ∷ 0x8010 ∷ 0x190A ∷ 0x8014 ∷ 0xA0 ∷ 0x8018 ∷ 0x63 ∷ 0x801C ∷ 0x95 ∷ 0x8020 ∷ 0 ∷ 0x8024 ∷ 1 ∷ 0x8000 ∷ 1
    ∷ [])
    -- B1's command in the long form, with 16 zeros behind it: the same
    ∷ case (compiled_in long_form (plain 8 0 320 240 0) (command 0 0 10 20 100 150 0 0 1 ++ replicate 16 0))
    (0 ∷ 120
    ∷ 0x40 ∷ 0 ∷ 0x44 ∷ 0x50 ∷ 0x50 ∷ 0 ∷ 0x54 ∷ 0 ∷ 0x58 ∷ 0 ∷ 0x5C ∷ 0
    ∷ 0x8008 ∷ 0x0C ∷ 0x800C ∷ 0 ∷ 0x8010 ∷ 0x190A ∷ 0x8014 ∷ 0xA0 ∷ 0x8018 ∷ 0x63 ∷ 0x801C ∷ 0x95 ∷ 0x8020 ∷ 0 ∷ 0x8024 ∷ 1 ∷ 0x8000 ∷ 1
    ∷ [])
    -- B1 on lines of 640 pixels: the offset is A0h dwords, the memory offset 140h words, the first address 20 × 640 + 10
    ∷ case (compiled (lined 8 0 320 240 0 640) (command 0 0 10 20 100 150 0 0 1))
    (0 ∷ 120
    ∷ 0x40 ∷ 0 ∷ 0x44 ∷ 0xA0 ∷ 0x50 ∷ 0 ∷ 0x54 ∷ 0 ∷ 0x58 ∷ 0 ∷ 0x5C ∷ 0
    ∷ 0x8008 ∷ 0x0C ∷ 0x800C ∷ 0 ∷ 0x8010 ∷ 0x320A ∷ 0x8014 ∷ 0x140 ∷ 0x8018 ∷ 0x63 ∷ 0x801C ∷ 0x95 ∷ 0x8020 ∷ 0 ∷ 0x8024 ∷ 1 ∷ 0x8000 ∷ 1
    ∷ [])
    -- B2: addresses 6 and 7, negative (operation 3)
    ∷ case (moved 0 1)
    (0 ∷ 0
    ∷ 0x8008 ∷ 0xC0003 ∷ 0x800C ∷ 6 ∷ 0x8010 ∷ 7
    ∷ 1 ∷ 1 ∷ 2 ∷ 3 ∷ 4 ∷ 5 ∷ 6 ∷ 7
    ∷ 1 ∷ 1 ∷ 2 ∷ 3 ∷ 4 ∷ 5 ∷ 6 ∷ 7
    ∷ [])
    -- B3: positive (operation 2)
    ∷ case (moved 1 0)
    (0 ∷ 0
    ∷ 0x8008 ∷ 0xC0002 ∷ 0x800C ∷ 1 ∷ 0x8010 ∷ 0
    ∷ 2 ∷ 3 ∷ 4 ∷ 5 ∷ 6 ∷ 7 ∷ 8 ∷ 8
    ∷ 2 ∷ 3 ∷ 4 ∷ 5 ∷ 6 ∷ 7 ∷ 8 ∷ 8
    ∷ [])
    ∷ []

-- ---- patterns and key colours (02, h)
-- a command record of the long form: operation, raster code, rectangle, source, key colour, pattern x, y and address; on the main image
abbrev pub long_command : ℕ → ℕ → ℕ → ℕ → ℕ → ℕ → ℕ → ℕ → ℕ → ℕ → ℕ → ℕ → List ℕ
long_command operation raster x y width height sx sy key px py pattern =
    command operation raster x y width height sx sy 0 ++ two_bytes key ++ px ∷ py ∷ four_bytes pattern ++ replicate 8 0

-- a list of the long form over the first bytes of a memory, which alone are drawn on: compiling's number and playing's, for a memory of 262,144
-- bytes; the last command's operation, source and destination, and its 8020h; then the bytes afterwards, by playing and on the sheet
abbrev drawn_both : List ℕ → List ℕ → List ℕ → List ℕ
drawn_both screen list memory =
    let rs = records_in long_form screen list in
    (compiling memory_size (task long_form screen list []) 1024).number
    ∷ (run memory_size new_chip 0 rs).number
    ∷ pairs (take 3 (drop 6 rs)) ++ pairs (take 1 (drop 12 rs))
    ++ applied new_chip rs memory
    ++ sheet_commands (fields_of screen) (commands_in (task long_form screen list [])) [] memory

-- 0, 1, 2 .. of n bytes
abbrev counted : ℕ → List ℕ
counted n = tabulate n (λ k. k)

-- ten lines of sixteen bytes, behind a pattern of 64
abbrev hatched_screen : List ℕ
hatched_screen = plain 8 0 16 10 64

-- the lines of a rectangle of 11 by 9 at (2, 1), all else 200
abbrev around : List ℕ → List ℕ
around line = 200 ∷ 200 ∷ line ++ (200 ∷ 200 ∷ 200 ∷ [])

abbrev twice : List ℕ → List ℕ
twice l = l ++ l

-- pattern pixel (u, v) is 8 × v + u: from column 3, line 4 on, over more than eight columns and lines
abbrev hatch : List ℕ
hatch =
    counted 64 ++ replicate 16 200
    ++ around (35 ∷ 36 ∷ 37 ∷ 38 ∷ 39 ∷ 32 ∷ 33 ∷ 34 ∷ 35 ∷ 36 ∷ 37 ∷ [])
    ++ around (43 ∷ 44 ∷ 45 ∷ 46 ∷ 47 ∷ 40 ∷ 41 ∷ 42 ∷ 43 ∷ 44 ∷ 45 ∷ [])
    ++ around (51 ∷ 52 ∷ 53 ∷ 54 ∷ 55 ∷ 48 ∷ 49 ∷ 50 ∷ 51 ∷ 52 ∷ 53 ∷ [])
    ++ around (59 ∷ 60 ∷ 61 ∷ 62 ∷ 63 ∷ 56 ∷ 57 ∷ 58 ∷ 59 ∷ 60 ∷ 61 ∷ [])
    ++ around (3 ∷ 4 ∷ 5 ∷ 6 ∷ 7 ∷ 0 ∷ 1 ∷ 2 ∷ 3 ∷ 4 ∷ 5 ∷ [])
    ++ around (11 ∷ 12 ∷ 13 ∷ 14 ∷ 15 ∷ 8 ∷ 9 ∷ 10 ∷ 11 ∷ 12 ∷ 13 ∷ [])
    ++ around (19 ∷ 20 ∷ 21 ∷ 22 ∷ 23 ∷ 16 ∷ 17 ∷ 18 ∷ 19 ∷ 20 ∷ 21 ∷ [])
    ++ around (27 ∷ 28 ∷ 29 ∷ 30 ∷ 31 ∷ 24 ∷ 25 ∷ 26 ∷ 27 ∷ 28 ∷ 29 ∷ [])
    ++ around (35 ∷ 36 ∷ 37 ∷ 38 ∷ 39 ∷ 32 ∷ 33 ∷ 34 ∷ 35 ∷ 36 ∷ 37 ∷ [])

-- a rectangle of 9 by 2 at (0, 8) with key colour 7, from column 5, line 7 on: where the pattern is 7, its line 0, the old pixel stays
abbrev key_hatch : List ℕ
key_hatch =
    counted 64 ++ replicate 128 200
    ++ (61 ∷ 62 ∷ 63 ∷ 56 ∷ 57 ∷ 58 ∷ 59 ∷ 60 ∷ 61 ∷ replicate 7 200)
    ++ (5 ∷ 6 ∷ 200 ∷ 0 ∷ 1 ∷ 2 ∷ 3 ∷ 4 ∷ 5 ∷ replicate 7 200)

-- one line of eight pixels at depth 16, behind a pattern of 128 bytes, of which pixel (u, v) has the bytes 16 × v + 2 × u and the next
abbrev wide_hatch : List ℕ
wide_hatch = counted 128 ++ (255 ∷ 255 ∷ 221 ∷ 220 ∷ 219 ∷ 218 ∷ 217 ∷ 216 ∷ replicate 8 255)

-- B2's line, and a transparent move on it
abbrev line8 : List ℕ
line8 = 1 ∷ 2 ∷ 3 ∷ 4 ∷ 5 ∷ 6 ∷ 7 ∷ 8 ∷ []

abbrev seen_through : ℕ → ℕ → ℕ → ℕ → List ℕ
seen_through from to width key = drawn_both (plain 8 0 8 1 0) (long_command 5 0 to 0 width 1 from 0 key 0 0 0) line8

unfoldable pub pattern_cases : List Case
pattern_cases =
    -- a hatch under code Ch, one with key colour, one at depth 16 under exclusive or, over FFh
    case (drawn_both hatched_screen (long_command 3 0xC 2 1 11 9 0 0 0 3 4 0) (counted 64 ++ replicate 160 200))
    (0 ∷ 0 ∷ 0x8008 ∷ 0xC0006 ∷ 0x800C ∷ 35 ∷ 0x8010 ∷ 82 ∷ 0x8020 ∷ 0 ∷ twice hatch)
    ∷ case (drawn_both hatched_screen (long_command 4 0 0 8 9 2 0 0 7 5 7 0) (counted 64 ++ replicate 160 200))
    (0 ∷ 0 ∷ 0x8008 ∷ 7 ∷ 0x800C ∷ 61 ∷ 0x8010 ∷ 192 ∷ 0x8020 ∷ 7 ∷ twice key_hatch)
    ∷ case (drawn_both (plain 16 0 8 1 128) (long_command 3 6 1 0 3 1 0 0 0 1 2 0) (counted 128 ++ replicate 16 255))
    (0 ∷ 0 ∷ 0x8008 ∷ 0x60006 ∷ 0x800C ∷ 34 ∷ 0x8010 ∷ 130 ∷ 0x8020 ∷ 0 ∷ twice wide_hatch)
    -- a see_through copy to the left, overlapping, and to the right, side by side: pixels 4 and 3 are not copied
    ∷ case (seen_through 1 0 7 4)
    (0 ∷ 0 ∷ 0x8008 ∷ 5 ∷ 0x800C ∷ 1 ∷ 0x8010 ∷ 0 ∷ 0x8020 ∷ 4 ∷ twice (2 ∷ 3 ∷ 3 ∷ 5 ∷ 6 ∷ 7 ∷ 8 ∷ 8 ∷ []))
    ∷ case (seen_through 0 4 4 3)
    (0 ∷ 0 ∷ 0x8008 ∷ 5 ∷ 0x800C ∷ 0 ∷ 0x8010 ∷ 4 ∷ 0x8020 ∷ 3 ∷ twice (1 ∷ 2 ∷ 3 ∷ 4 ∷ 1 ∷ 2 ∷ 7 ∷ 4 ∷ []))
    -- to the right, overlapping: 29, and so is a pattern of which the rectangle's first pixel is a byte
    ∷ case ((compiling memory_size (task long_form (plain 8 0 8 1 0) (long_command 5 0 1 0 7 1 0 0 3 0 0 0) []) 1024).number ∷ []) (29 ∷ [])
    ∷ case ((compiling memory_size (task long_form (plain 8 0 16 10 64) (long_command 3 0xC 0 0 1 1 0 0 0 0 0 64) []) 1024).number ∷ []) (29 ∷ [])
    ∷ []

-- where the pixel of panel point (p, q) of a screen stands, byte and place of the highest bit: by the chip's walk, then on the sheet
abbrev stands : List ℕ → ℕ → ℕ → List ℕ
stands screen p q =
    let s = fields_of screen in
    let w = looked_at (display_of s) (values_of s) p q in
    address_at s.depth w ∷ bit_at s.depth w ∷ shown_address s p q ∷ shown_place s p q ∷ []

abbrev stands_at : List ℕ → ℕ → ℕ → ℕ → ℕ → Case
stands_at screen p q address bit = case (stands screen p q) (address ∷ bit ∷ address ∷ bit ∷ [])

unfoldable pub point_cases : List Case
point_cases =
    -- 002's addresses of pixels: examples 9 and 16 (B1) at depth 8, 11 and 12 at depth 16, there the low byte's
    stands_at (plain 8 0 320 240 0) 25 38 0x2F99 7
    ∷ stands_at (plain 8 0 320 240 0) 10 20 0x190A 7
    ∷ stands_at (plain 16 0 320 240 0) 100 10 0x19C8 7
    ∷ stands_at (plain 16 0 320 240 0) 200 20 0x3390 7
    -- 002's figures 4-1 to 4-3: the pixels of the first byte, and the first of the next
    ∷ stands_at (plain 1 0 320 240 0) 0 0 0 7
    ∷ stands_at (plain 1 0 320 240 0) 1 0 0 6
    ∷ stands_at (plain 1 0 320 240 0) 7 0 0 0
    ∷ stands_at (plain 1 0 320 240 0) 8 0 1 7
    ∷ stands_at (plain 2 0 320 240 0) 1 0 0 5
    ∷ stands_at (plain 2 0 320 240 0) 3 0 0 1
    ∷ stands_at (plain 2 0 320 240 0) 4 0 1 7
    ∷ stands_at (plain 4 0 320 240 0) 1 0 0 3
    ∷ stands_at (plain 4 0 320 240 0) 2 0 1 7
    -- S1 to S4: the panel's first point is in the start's dword, its first pixel at 0 and 270 degrees, its last at 90 and 180
    ∷ stands_at (plain 4 0 320 240 0) 0 0 0 7
    ∷ stands_at (plain 4 1 320 240 0) 0 0 0x77 3
    ∷ stands_at (plain 4 2 320 240 0) 0 0 0x95FF 3
    ∷ stands_at (plain 4 3 320 240 0) 0 0 0x9588 7
    -- S5 and S7: the window's first point, at (X start, 8 × Y start) and at (8 × X start, Y start), has its image's last pixel of a line
    ∷ stands_at (with_window 1 64 80 120 160) 0x50 56 59 3
    ∷ stands_at (with_window 2 80 60 160 120) 80 0x3C 0x257F 3
    -- S9: the last point is in the last byte
    ∷ stands_at (plain 2 0 1024 1024 0) 1023 1023 0x3FFFF 1
    ∷ []

-- B2's or B3's screen at a rotation, played on a memory of eight bytes, and read as a panel line: the number, then what a buffer of eight nines holds
abbrev read_as : ℕ → ℕ → ℕ → List ℕ
read_as rotation from to =
    let screen = plain 8 rotation 8 1 0 in
    let s = fields_of screen in
    let line : List ℕ = 1 ∷ 2 ∷ 3 ∷ 4 ∷ 5 ∷ 6 ∷ 7 ∷ 8 ∷ [] in
    let memory = applied new_chip (records screen (command 1 0xC to 0 7 1 from 0 0)) line in
    line_number 8 (display_of s) (values_of s) 0 memory 8 ∷ line_after 8 (display_of s) (values_of s) 0 memory (replicate 8 9)

unfoldable pub read_cases : List Case
read_cases =
    -- B2 and B3: the line that the paper has; and the same turned by 180 degrees
    case (read_as 0 0 1) (0 ∷ 1 ∷ 1 ∷ 2 ∷ 3 ∷ 4 ∷ 5 ∷ 6 ∷ 7 ∷ [])
    ∷ case (read_as 0 1 0) (0 ∷ 2 ∷ 3 ∷ 4 ∷ 5 ∷ 6 ∷ 7 ∷ 8 ∷ 8 ∷ [])
    ∷ case (read_as 2 0 1) (0 ∷ 7 ∷ 6 ∷ 5 ∷ 4 ∷ 3 ∷ 2 ∷ 1 ∷ 1 ∷ [])
    ∷ case (read_as 2 1 0) (0 ∷ 8 ∷ 8 ∷ 7 ∷ 6 ∷ 5 ∷ 4 ∷ 3 ∷ 2 ∷ [])
    ∷ []

unfoldable pub cases : List Case
cases = screen_cases ++ line_cases ++ draw_cases ++ pattern_cases ++ example_cases ++ older_cases ++ point_cases ++ read_cases
