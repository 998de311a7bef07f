-- The plain sheet, drawing and showing, computed on small memories.
use Prim.Native.Nat.{ℕ}
use mathlib.Core.Path.{◌≡◌, refl}
use mathlib.Core.List.{List, [], ◌∷◌, ◌++◌, map}
use mathlib.Core.Bool.{Bool, cond}
use lib.ListN.{take, replicate, set}
use Rattle.record.specs.Bytes.{two_bytes, four_bytes, all_zero}
use Rattle.record.specs.Checks.{first_of}
use Rattle.record.specs.Record.{record_bytes, stream_bytes}
use Rattle.pixel.specs.Depth.{is_depth}
use Rattle.pixel.specs.Pixel.{byte_of}
use Rattle.pixel.specs.Raster.{bitwise}
use Rattle.screen.specs.Image.{image_end, start_of}
use Rattle.screen.specs.Screen.{fields_of, well_formed, panel_ok, view_width, view_height, whole_dwords, main_image, window_image, line_ok, image_ok, window_ok, window_whole, field_rows, screen_rows}
use Rattle.screen.specs.Values.{window_x, window_y, origin_of, values_of}
use Rattle.screen.specs.declared.Image.{Image}
use Rattle.view.specs.View.{pixel_at, view_pixel, in_window, window_pixel}
use Rattle.reader.specs.Read.{refused_point}
use Rattle.command.specs.Sharing.{any_of, share_byte}
use Rattle.command.specs.Command.{command_of, command_bytes, surface_of, address_of, destination_of, source_of, must_be_zero, pattern_fits, formed, inside_image, placed, clashes, line_words, words_taken, command_rows, refusal}
use Rattle.command.specs.Values.{is_negative, last_column, last_line, command_value, pattern_value, source_value, destination_value, control_value, blit_values}
use Rattle.record.specs.Lists.{parts_from, parts_of}
use Rattle.compiler.specs.Stream.{records_with, screen_records, data_records, command_records, draw_records, records_for}
use Rattle.command.specs.Task.{short_form, task, list_rows, first_refusal, all_words, word_rows, task_refusal}
use Rattle.compiler.specs.Compile.{room_rows, refusal_of, compiling, stream_of, buffer_after}
use Rattle.unit.specs.Sheet.{sheet_address, sheet_bit, sheet_pixel, host_pixel, sheet_source, sheet_mix, new_pixel, changes, sheet_byte, sheet_command, sheet_commands, sheet_after, sheet_shows, shown_address, shown_place}
use Rattle.unit.specs.Point.{sheet_point, sheet_line}
use Rattle.unit.specs.Kept.{is_shown, in_gap, outside}
use Rattle.unit.specs.Draw.{drawing, memory_drawn, stream_drawn, drawing_of, drawing_by, answer_of, show_rows, showing}
use Rattle.unit.specs.Cases.{command}
use Rattle.unit.specs.declared.Drawn.{Drawn}
use Rattle.std.specs.Prelude.{Ok, Err}
use Rattle.refusal.specs.Number as refusals
use Rattle.refusal.specs.declared.Refused.{Refused}
use Rattle.refusal.specs.declared.Refusal.TheVariants.{EmptyRectangle, MemoryLength}

-- ---- pixels of each depth: an image of 8 by 2 from byte 1 on, lines of two bytes at depth 1
abbrev image : ℕ → Image
image line = record { base = 1; line = line; width = 8; height = 2 }

abbrev bytes : List ℕ
bytes = 0xFF ∷ 0x12 ∷ 0x34 ∷ 0xB1 ∷ 0x56 ∷ 0x9A ∷ []

pub pixels : map (λ u. sheet_pixel 1 (image 2) bytes (pixel_at u 1)) (0 ∷ 1 ∷ 2 ∷ 3 ∷ 4 ∷ 5 ∷ 6 ∷ 7 ∷ 8 ∷ 9 ∷ [])
    ++ map (λ u. sheet_pixel 2 (image 2) bytes (pixel_at u 1)) (0 ∷ 1 ∷ 2 ∷ 3 ∷ [])
    ++ map (λ u. sheet_pixel 4 (image 2) bytes (pixel_at u 1)) (0 ∷ 1 ∷ 2 ∷ [])
    ++ map (λ u. sheet_pixel 8 (image 3) bytes (pixel_at u 1)) (0 ∷ 1 ∷ [])
    ++ map (λ u. sheet_pixel 16 (image 3) bytes (pixel_at u 0)) (0 ∷ 1 ∷ [])
    ≡ 1 ∷ 0 ∷ 1 ∷ 1 ∷ 0 ∷ 0 ∷ 0 ∷ 1 ∷ 0 ∷ 1
    ∷ 2 ∷ 3 ∷ 0 ∷ 1
    ∷ 0xB ∷ 1 ∷ 5
    ∷ 0x56 ∷ 0x9A
    ∷ 0x3412 ∷ 0x56B1
    ∷ []
unfolding sheet_pixel
pixels = refl

-- where they stand: the byte, then the place of the highest bit in it
pub places : map (λ u. sheet_address 1 (image 2) (pixel_at u 1)) (0 ∷ 1 ∷ 7 ∷ 8 ∷ []) ++ map (sheet_bit 1) (map (λ u. pixel_at u 1) (0 ∷ 1 ∷ 2 ∷ 3 ∷ 4 ∷ 5 ∷ 6 ∷ 7 ∷ 8 ∷ []))
    ++ map (λ u. sheet_address 2 (image 2) (pixel_at u 1)) (0 ∷ 3 ∷ 4 ∷ []) ++ map (sheet_bit 2) (map (λ u. pixel_at u 1) (0 ∷ 1 ∷ 2 ∷ 3 ∷ 4 ∷ []))
    ++ map (λ u. sheet_address 4 (image 2) (pixel_at u 1)) (0 ∷ 1 ∷ 2 ∷ []) ++ map (sheet_bit 4) (map (λ u. pixel_at u 1) (0 ∷ 1 ∷ 2 ∷ []))
    ++ map (λ u. sheet_address 8 (image 3) (pixel_at u 1)) (0 ∷ 1 ∷ []) ++ map (sheet_bit 8) (map (λ u. pixel_at u 1) (0 ∷ 1 ∷ []))
    ++ map (λ u. sheet_address 16 (image 3) (pixel_at u 0)) (0 ∷ 1 ∷ []) ++ map (sheet_bit 16) (map (λ u. pixel_at u 1) (0 ∷ 1 ∷ []))
    ≡ 3 ∷ 3 ∷ 3 ∷ 4 ∷ 7 ∷ 6 ∷ 5 ∷ 4 ∷ 3 ∷ 2 ∷ 1 ∷ 0 ∷ 7
    ∷ 3 ∷ 3 ∷ 4 ∷ 7 ∷ 5 ∷ 3 ∷ 1 ∷ 7
    ∷ 3 ∷ 3 ∷ 4 ∷ 7 ∷ 3 ∷ 7
    ∷ 4 ∷ 5 ∷ 7 ∷ 7
    ∷ 1 ∷ 3 ∷ 7 ∷ 7
    ∷ []
unfolding sheet_bit
places = refl

-- ---- commands on a screen of 8 by 2 at depth 8 with a window of 4 by 2 at byte 16 over its right half
abbrev screen : ℕ → List ℕ
screen depth = depth ∷ 0 ∷ 1 ∷ 0 ∷ two_bytes 8 ++ two_bytes 2 ++ four_bytes 0 ++ four_bytes 16 ++ two_bytes 4 ++ two_bytes 0 ++ two_bytes 4 ++ two_bytes 2 ++ four_bytes 0 ++ four_bytes 0

-- a command record on the window
abbrev on_window : List ℕ → List ℕ
on_window c = set c 1 1

abbrev old : List ℕ
old = 1 ∷ 2 ∷ 3 ∷ 4 ∷ 5 ∷ 6 ∷ 7 ∷ 8 ∷ 9 ∷ 10 ∷ 11 ∷ 12 ∷ 13 ∷ 14 ∷ 15 ∷ 16 ∷ 17 ∷ 18 ∷ 19 ∷ 20 ∷ 21 ∷ 22 ∷ 23 ∷ 24 ∷ []

-- what the commands leave of those 24 bytes
abbrev drawn : ℕ → List ℕ → List ℕ → List ℕ
drawn depth list words = sheet_commands (fields_of (screen depth)) (parts_of 32 list) words old

-- a fill of 2 by 2 at (1, 0) with colour 99
pub filled : drawn 8 (command 0 0 1 0 2 2 0 0 99) []
    ≡ 1 ∷ 99 ∷ 99 ∷ 4 ∷ 5 ∷ 6 ∷ 7 ∷ 8 ∷ 9 ∷ 99 ∷ 99 ∷ 12 ∷ 13 ∷ 14 ∷ 15 ∷ 16 ∷ 17 ∷ 18 ∷ 19 ∷ 20 ∷ 21 ∷ 22 ∷ 23 ∷ 24 ∷ []
unfolding byte_of fields_of view_width view_height main_image window_image command_of command_bytes surface_of line_words words_taken parts_from parts_of sheet_pixel host_pixel sheet_source sheet_mix new_pixel changes sheet_byte sheet_command sheet_commands
filled = refl

-- a move within the window, of 3 by 1 from (0, 1) to (1, 0) under exclusive or
pub moved : drawn 8 (on_window (command 1 6 1 0 3 1 0 1 0)) []
    ≡ 1 ∷ 2 ∷ 3 ∷ 4 ∷ 5 ∷ 6 ∷ 7 ∷ 8 ∷ 9 ∷ 10 ∷ 11 ∷ 12 ∷ 13 ∷ 14 ∷ 15 ∷ 16 ∷ 17 ∷ 7 ∷ 5 ∷ 3 ∷ 21 ∷ 22 ∷ 23 ∷ 24 ∷ []
unfolding byte_of bitwise fields_of view_width view_height main_image window_image command_of command_bytes surface_of line_words words_taken parts_from parts_of sheet_pixel host_pixel sheet_source sheet_mix new_pixel changes sheet_byte sheet_command sheet_commands
moved = refl

-- two writes of 3 by 2 and of 1 by 1: each line takes two words and one word, the spare high byte ignored; the second takes the words that the first left
pub written : drawn 8 (command 2 0xC 0 0 3 2 0 0 0 ++ command 2 0xC 7 1 1 1 0 0 0) (0x6261 ∷ 0xFF63 ∷ 0x6564 ∷ 0xFF66 ∷ 0xFF67 ∷ [])
    ≡ 0x61 ∷ 0x62 ∷ 0x63 ∷ 4 ∷ 5 ∷ 6 ∷ 7 ∷ 8 ∷ 0x64 ∷ 0x65 ∷ 0x66 ∷ 12 ∷ 13 ∷ 14 ∷ 15 ∷ 0x67 ∷ 17 ∷ 18 ∷ 19 ∷ 20 ∷ 21 ∷ 22 ∷ 23 ∷ 24 ∷ []
unfolding byte_of bitwise fields_of view_width view_height main_image window_image command_of command_bytes surface_of line_words words_taken parts_from parts_of sheet_pixel host_pixel sheet_source sheet_mix new_pixel changes sheet_byte sheet_command sheet_commands
written = refl

-- at depth 16 a line of the main image has 16 bytes, and a write of 2 by 1 at (3, 0) takes two words, the low byte first
pub written_wide : drawn 16 (command 2 0xC 3 0 2 1 0 0 0) (0x6261 ∷ 0x6463 ∷ [])
    ≡ 1 ∷ 2 ∷ 3 ∷ 4 ∷ 5 ∷ 6 ∷ 0x61 ∷ 0x62 ∷ 0x63 ∷ 0x64 ∷ 11 ∷ 12 ∷ 13 ∷ 14 ∷ 15 ∷ 16 ∷ 17 ∷ 18 ∷ 19 ∷ 20 ∷ 21 ∷ 22 ∷ 23 ∷ 24 ∷ []
unfolding byte_of bitwise fields_of view_width view_height main_image window_image command_of command_bytes surface_of line_words words_taken parts_from parts_of sheet_pixel host_pixel sheet_source sheet_mix new_pixel changes sheet_byte sheet_command sheet_commands
written_wide = refl

-- ---- lines longer than what is shown: 12 pixels each on the same screen, the window from byte 8 on in the main image's gap
abbrev wide : ℕ → List ℕ
wide rotation = 8 ∷ rotation ∷ 1 ∷ 0 ∷ two_bytes 8 ++ two_bytes 2 ++ four_bytes 0 ++ four_bytes 8 ++ two_bytes 4 ++ two_bytes 0 ++ two_bytes 4 ++ two_bytes 2 ++ two_bytes 12 ++ two_bytes 12 ++ four_bytes 0

abbrev interlaced : List ℕ
interlaced = 99 ∷ 99 ∷ 99 ∷ 99 ∷ 99 ∷ 99 ∷ 99 ∷ 99 ∷ 9 ∷ 21 ∷ 22 ∷ 23 ∷ 99 ∷ 99 ∷ 99 ∷ 99 ∷ 99 ∷ 99 ∷ 99 ∷ 99 ∷ 21 ∷ 22 ∷ 23 ∷ 24 ∷ []

-- a fill of the whole main image, and a move within the window, of 3 by 1 from (0, 1) to (1, 0): each keeps to its own
pub gaps_kept : sheet_commands (fields_of (wide 0)) (parts_of 32 (command 0 0 0 0 8 2 0 0 99 ++ on_window (command 1 0xC 1 0 3 1 0 1 0))) [] old ≡ interlaced
unfolding byte_of bitwise fields_of view_width view_height main_image window_image command_of command_bytes surface_of line_words words_taken parts_from parts_of sheet_pixel host_pixel sheet_source sheet_mix new_pixel changes sheet_byte sheet_command sheet_commands
gaps_kept = refl

-- which bytes are shown, and which lie between shown width and line length: an image of 2 by 2 from byte 1 on, lines of 3 bytes
abbrev whether : Bool → ℕ
whether b = cond b 1 0

abbrev short : Image
short = record { base = 1; line = 3; width = 2; height = 2 }

pub shown_bytes : map (λ a. whether (is_shown 8 short a)) (0 ∷ 1 ∷ 2 ∷ 3 ∷ 4 ∷ 5 ∷ 6 ∷ 7 ∷ [])
    ++ map (λ a. whether (in_gap 8 short a)) (0 ∷ 1 ∷ 2 ∷ 3 ∷ 4 ∷ 5 ∷ 6 ∷ 7 ∷ 9 ∷ [])
    ≡ 0 ∷ 1 ∷ 1 ∷ 0 ∷ 1 ∷ 1 ∷ 0 ∷ 0
    ∷ 0 ∷ 0 ∷ 0 ∷ 1 ∷ 0 ∷ 0 ∷ 1 ∷ 0 ∷ 0
    ∷ []
unfolding is_shown in_gap
shown_bytes = refl

-- bytes that the main image alone, the window alone and neither shows, for a list on main, on the window, and on both
abbrev apart : List ℕ → List ℕ
apart list = map (λ a. whether (outside (fields_of (wide 0)) (parts_of 32 list) a)) (0 ∷ 8 ∷ 24 ∷ [])

pub outsides : apart (command 0 0 0 0 8 2 0 0 99) ++ apart (on_window (command 0 0 0 0 4 2 0 0 99)) ++ apart (command 0 0 0 0 8 2 0 0 99 ++ on_window (command 0 0 0 0 4 2 0 0 99))
    ≡ 0 ∷ 1 ∷ 1 ∷ 1 ∷ 0 ∷ 1 ∷ 0 ∷ 0 ∷ 1 ∷ []
unfolding fields_of view_width view_height main_image window_image command_of command_bytes surface_of parts_from parts_of is_shown outside
outsides = refl

-- ---- drawing and showing, the memory being those 24 bytes

abbrev draws : List ℕ → List ℕ → ℕ → List ℕ → List ℕ
draws list words room memory =
    let d = drawing 24 (task short_form (screen 8) list words) room memory in
    d.number ∷ d.place ∷ d.length ∷ d.values.main.offset ∷ d.values.window.start ∷ d.values.x ∷ take 2 (memory_drawn 24 (task short_form (screen 8) list words) room memory)
    ++ take 1 (stream_drawn 24 (task short_form (screen 8) list words) (replicate room 7) memory)

-- accepted, with the stream's length and the screen's values; 18 before a refusal of compiling; a refused command with its place; 17
pub drawings : draws (command 0 0 0 0 1 1 0 0 99) [] 120 old
    ∷ draws (0 ∷ []) [] 120 (0 ∷ old)
    ∷ draws (command 0 0 0 0 1 1 0 0 99 ++ command 0 0 0 0 0 1 0 0 99) [] 200 old
    ∷ draws (command 0 0 0 0 1 1 0 0 99) [] 119 old
    ∷ []
    ≡ (0 ∷ 0 ∷ 120 ∷ 2 ∷ 4 ∷ 0x10001 ∷ 99 ∷ 2 ∷ 0x40 ∷ [])
    ∷ (18 ∷ 0 ∷ 0 ∷ 0 ∷ 0 ∷ 0 ∷ 0 ∷ 1 ∷ 7 ∷ [])
    ∷ (13 ∷ 1 ∷ 0 ∷ 0 ∷ 0 ∷ 0 ∷ 1 ∷ 2 ∷ 7 ∷ [])
    ∷ (17 ∷ 0 ∷ 0 ∷ 0 ∷ 0 ∷ 0 ∷ 1 ∷ 2 ∷ 7 ∷ [])
    ∷ []
unfolding all_zero first_of record_bytes stream_bytes is_depth byte_of bitwise image_end start_of fields_of well_formed panel_ok view_width view_height whole_dwords main_image window_image line_ok image_ok window_ok window_whole field_rows screen_rows window_x window_y origin_of values_of command_of command_bytes surface_of must_be_zero pattern_fits formed inside_image placed any_of share_byte clashes line_words words_taken command_rows refusal address_of destination_of source_of is_negative last_column last_line command_value pattern_value source_value destination_value control_value blit_values parts_from parts_of records_with screen_records data_records command_records draw_records records_for list_rows first_refusal all_words word_rows task_refusal room_rows refusal_of compiling stream_of buffer_after sheet_pixel host_pixel sheet_source sheet_mix new_pixel changes sheet_byte sheet_command sheet_commands sheet_after drawing memory_drawn stream_drawn
drawings = refl

-- the numbers of an answer, and the answer with these numbers
abbrev empty_1 : Refused
empty_1 = record { refusal = EmptyRectangle; place = 1 }

abbrev bytes_120 : Drawn
bytes_120 = record { length = 120; values = values_of (fields_of (screen 8)) }

pub answers : (drawing_of (Err empty_1)
    ≡ record { number = 13; place = 1; length = 0; values = record { main = record { start = 0; offset = 0 }; window = record { start = 0; offset = 0 }; x = 0; y = 0 } })
    × (answer_of (drawing_of (Err empty_1)) ≡ Err empty_1)
    × (answer_of (drawing 24 (task short_form (screen 8) [] []) 0 []) ≡ Err (record { refusal = MemoryLength; place = 0 }))
    × (answer_of (drawing_of (Ok bytes_120)) ≡ Ok bytes_120)
unfolding drawing drawing_by answer_of refusals.answered_at refusals.number refusals.refusal
answers = (refl, refl, refl, refl)

-- line 1 of the panel: the main image's left half, and the window's second line over its right half; 18 before 1, 1 before 24, and 24
abbrev shows : ℕ → ℕ → List ℕ
shows p q = let r = showing 24 (screen 8) p q old in r.number ∷ r.place ∷ r.colour ∷ r.address ∷ r.bit ∷ []

pub showings : map (λ p. shows p 1) (0 ∷ 3 ∷ 4 ∷ 7 ∷ 8 ∷ [])
    ≡ (0 ∷ 0 ∷ 9 ∷ 8 ∷ 7 ∷ []) ∷ (0 ∷ 0 ∷ 12 ∷ 11 ∷ 7 ∷ []) ∷ (0 ∷ 0 ∷ 21 ∷ 20 ∷ 7 ∷ []) ∷ (0 ∷ 0 ∷ 24 ∷ 23 ∷ 7 ∷ []) ∷ (24 ∷ 0 ∷ 0 ∷ 0 ∷ 0 ∷ []) ∷ []
unfolding all_zero first_of is_depth image_end fields_of well_formed panel_ok view_width view_height whole_dwords main_image window_image line_ok image_ok window_ok window_whole field_rows screen_rows view_pixel in_window window_pixel sheet_bit sheet_pixel sheet_shows shown_address shown_place sheet_point refused_point show_rows showing
showings = refl

-- both lines of the panel, whole
pub sheet_lines : (sheet_line (fields_of (screen 8)) old 0 ≡ 1 ∷ 2 ∷ 3 ∷ 4 ∷ 17 ∷ 18 ∷ 19 ∷ 20 ∷ [])
    × (sheet_line (fields_of (screen 8)) old 1 ≡ 9 ∷ 10 ∷ 11 ∷ 12 ∷ 21 ∷ 22 ∷ 23 ∷ 24 ∷ [])
unfolding fields_of view_width view_height main_image window_image view_pixel in_window window_pixel sheet_pixel sheet_shows sheet_line
sheet_lines = (refl, refl)

-- the lines of 12 pixels, upright and turned by 180 degrees: a line of the panel's, then the other's first and last points
abbrev wide_shows : ℕ → ℕ → ℕ → ℕ
wide_shows rotation q p = let r = showing 24 (wide rotation) p q interlaced in r.colour

pub wide_showings : map (wide_shows 0 1) (0 ∷ 1 ∷ 2 ∷ 3 ∷ 4 ∷ 5 ∷ 6 ∷ 7 ∷ []) ++ map (wide_shows 0 0) (0 ∷ 4 ∷ 7 ∷ [])
    ++ map (wide_shows 2 0) (0 ∷ 1 ∷ 2 ∷ 3 ∷ 4 ∷ 5 ∷ 6 ∷ 7 ∷ []) ++ map (wide_shows 2 1) (0 ∷ 3 ∷ 7 ∷ [])
    ≡ 99 ∷ 99 ∷ 99 ∷ 99 ∷ 21 ∷ 22 ∷ 23 ∷ 24 ∷ 99 ∷ 9 ∷ 23
    ∷ 24 ∷ 23 ∷ 22 ∷ 21 ∷ 99 ∷ 99 ∷ 99 ∷ 99 ∷ 23 ∷ 9 ∷ 99
    ∷ []
unfolding all_zero first_of is_depth image_end fields_of well_formed panel_ok view_width view_height whole_dwords main_image window_image line_ok image_ok window_ok window_whole field_rows screen_rows view_pixel in_window window_pixel sheet_bit sheet_pixel sheet_shows shown_address shown_place sheet_point refused_point show_rows showing
wide_showings = refl

pub show_order : (showing 24 [] 8 0 []).number ∷ (showing 24 [] 8 0 old).number ∷ (showing 24 (screen 8) 0 2 old).number ∷ []
    ≡ 18 ∷ 1 ∷ 24 ∷ []
unfolding all_zero first_of is_depth image_end fields_of well_formed panel_ok view_width view_height whole_dwords main_image window_image line_ok image_ok window_ok window_whole field_rows screen_rows sheet_point refused_point show_rows showing
show_order = refl
