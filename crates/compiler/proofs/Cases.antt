-- Cases by computation: B4, lists of commands, and the refusals that speak of the list, the host words and the buffer.
use Prim.Native.Nat.{ℕ, ◌*◌}
use mathlib.Core.Path.{◌≡◌, refl}
use mathlib.Core.List.{List, [], ◌∷◌, ◌++◌, map}
use lib.ListN.{replicate, take}
use Rattle.record.specs.Bytes.{all_zero}
use Rattle.record.specs.Lists.{parts_from, parts_of}
use Rattle.record.specs.Record.{record_with, record_bytes, stream_bytes}
use Rattle.record.specs.Checks.{first_of}
use Rattle.pixel.specs.Depth.{is_depth}
use Rattle.screen.specs.Image.{image_end, start_of}
use Rattle.screen.specs.Screen.{memory_size, fields_of, well_formed, panel_ok, view_width, view_height, whole_dwords, main_image, window_image, line_ok, image_ok, window_ok, window_whole, field_rows, screen_rows}
use Rattle.screen.specs.Values.{window_x, window_y, origin_of, values_of}
use Rattle.screen.specs.Cases.{with_window}
use Rattle.command.specs.Command.{command_of, surface_of, address_of, destination_of, source_of, must_be_zero, pattern_fits, formed, inside_image, placed, clashes, line_words, words_taken, command_rows, refusal}
use Rattle.command.specs.Sharing.{any_of, share_byte}
use Rattle.command.specs.Values.{is_negative, last_column, last_line, command_value, pattern_value, source_value, destination_value, control_value, blit_values}
use Rattle.command.specs.Task.{short_form, long_form, task, list_rows, first_refusal, all_words, word_rows, task_refusal}
use Rattle.command.proofs.Tasks.{panel, bad_window, fill, move, write, strange, empty, outside, hatched, overdrawn, times, long, four_words}
use Rattle.compiler.specs.Stream.{records_with, screen_records, data_records, command_records, draw_records, records_for}
use Rattle.compiler.specs.Compile.{room_rows, refusal_of, compiling, stream_of, buffer_after, compiling_of, compiling_by, answer_of, numbers_of}
use Rattle.compiler.specs.Part.{part_from, part_size}
use Rattle.compiler.specs.declared.Compiled.{Compiled}
use Rattle.std.specs.Prelude.{Ok, Err}
use Rattle.refusal.specs.Number as refusals
use Rattle.refusal.specs.declared.Refused.{Refused}
use Rattle.refusal.specs.declared.Refusal.TheVariants.{Outside}

-- a list's form, a screen record, a list, host words, and a buffer of `room` sevens, of which the first `shown` bytes are asked for
pub record Case : Type 0 where
  pub form : ℕ
  pub screen : List ℕ
  pub list : List ℕ
  pub words : List ℕ
  pub room : ℕ
  pub shown : ℕ

abbrev case : List ℕ → List ℕ → List ℕ → ℕ → ℕ → Case
case s l w r n = record { form = short_form; screen = s; list = l; words = w; room = r; shown = n }

abbrev long_case : List ℕ → List ℕ → List ℕ → ℕ → ℕ → Case
long_case s l w r n = record { form = long_form; screen = s; list = l; words = w; room = r; shown = n }

-- what compiling gives: its six numbers, where the refused part starts and its length, and the buffer's bytes
pub record Result : Type 0 where
  pub numbers : List ℕ
  pub from : ℕ
  pub size : ℕ
  pub bytes : List ℕ

abbrev run : Case → Result
run c =
    let old : List ℕ = replicate c.room 7 in
    let t = task c.form c.screen c.list c.words in
    let r = compiling memory_size t c.room in
    record { numbers = numbers_of r; from = part_from c.form c.list r; size = part_size c.form c.list r; bytes = take c.shown (buffer_after memory_size t old) }

abbrev accepted : ℕ → ℕ → List ℕ → Result
accepted length depth bytes = record { numbers = 0 ∷ 0 ∷ length ∷ depth ∷ 0 ∷ 0 ∷ []; from = 0; size = 0; bytes = bytes }

abbrev refused : ℕ → Result
refused n = record { numbers = n ∷ 0 ∷ 0 ∷ 0 ∷ 0 ∷ 0 ∷ []; from = 0; size = 0; bytes = 7 ∷ 7 ∷ [] }

abbrev refused_command : ℕ → ℕ → Result
refused_command n i = record { numbers = n ∷ i ∷ 0 ∷ 0 ∷ 0 ∷ 0 ∷ []; from = i * 32; size = 32; bytes = 7 ∷ 7 ∷ [] }

abbrev refused_long : ℕ → ℕ → Result
refused_long n i = record { numbers = n ∷ i ∷ 0 ∷ 0 ∷ 0 ∷ 0 ∷ []; from = i * 48; size = 48; bytes = 7 ∷ 7 ∷ [] }

-- S6's screen: turned by 270 degrees, with a window
abbrev turned : List ℕ
turned = with_window 3 64 80 120 160

abbrev screen_bytes : ℕ → List ℕ
screen_bytes offset = stream_bytes (record_with 0x40 0 ∷ record_with 0x44 offset ∷ record_with 0x50 0 ∷ record_with 0x54 0 ∷ record_with 0x58 0 ∷ record_with 0x5C 0 ∷ [])

-- the nine records of B1, of a pattern fill, of the move and of the write, with its words
abbrev fill_bytes : List ℕ
fill_bytes = stream_bytes (record_with 0x8008 0xC ∷ record_with 0x800C 0 ∷ record_with 0x8010 0x190A ∷ record_with 0x8014 0xA0 ∷ record_with 0x8018 0x63 ∷ record_with 0x801C 0x95 ∷ record_with 0x8020 0 ∷ record_with 0x8024 1 ∷ record_with 0x8000 1 ∷ [])

-- 002's example 16
abbrev hatched_bytes : List ℕ
hatched_bytes = stream_bytes (record_with 0x8008 0xC0006 ∷ record_with 0x800C 0x3C023 ∷ record_with 0x8010 0x190A ∷ record_with 0x8014 0xA0 ∷ record_with 0x8018 0x63 ∷ record_with 0x801C 0x95 ∷ record_with 0x8020 0 ∷ record_with 0x8024 0 ∷ record_with 0x8000 1 ∷ [])

abbrev move_bytes : List ℕ
move_bytes = stream_bytes (record_with 0x8008 0xC0003 ∷ record_with 0x800C 6 ∷ record_with 0x8010 7 ∷ record_with 0x8014 0xA0 ∷ record_with 0x8018 6 ∷ record_with 0x801C 0 ∷ record_with 0x8020 0 ∷ record_with 0x8024 0 ∷ record_with 0x8000 1 ∷ [])

abbrev write_bytes : List ℕ → List ℕ
write_bytes words = stream_bytes (record_with 0x8008 0xC0000 ∷ record_with 0x800C 0 ∷ record_with 0x8010 1 ∷ record_with 0x8014 0xA0 ∷ record_with 0x8018 2 ∷ record_with 0x801C 1 ∷ record_with 0x8020 0 ∷ record_with 0x8024 0 ∷ record_with 0x8000 1 ∷ map (record_with 0x10000) words)

abbrev four_words' : List ℕ
four_words' = 0xA09 ∷ 0xB ∷ 0xD0C ∷ 0xE ∷ []

-- B4, B1, two commands, three with a write's words, two writes, a screen turned by 270 degrees with a window, 64 commands; then 1, 2, 10 twice, 11, 12 to 14, 15, 16 and 17
abbrev cases : List Case
cases =
    case (panel 1) [] [] 50 50
    ∷ case (panel 8) fill [] 122 122
    ∷ case (panel 8) (fill ++ move) [] 194 194
    ∷ case (panel 8) (fill ++ write ++ move) four_words 298 298
    ∷ case (panel 8) (write ++ write) (four_words ++ four_words') 256 256
    ∷ case turned [] [] 48 0
    ∷ case (panel 8) (times 64 fill) [] 4656 0
    ∷ case [] [] [] 48 2
    ∷ case (panel 3) (times 65 fill) [] 48 2
    ∷ case (panel 8) (times 65 fill) [] 4728 2
    ∷ case (panel 8) (0 ∷ fill) [] 120 2
    ∷ case (panel 4) fill [] 120 2
    ∷ case (panel 8) (fill ++ strange) [] 192 2
    ∷ case (panel 8) (fill ++ empty) [] 192 2
    ∷ case (panel 8) (outside ++ fill) [] 192 2
    ∷ case (panel 8) (fill ++ write ++ write) (0x201 ∷ 3 ∷ four_words) 1000 2
    ∷ case (panel 8) (fill ++ write) (0 ∷ four_words) 1000 2
    ∷ case (panel 8) fill [] 119 2
    -- two rows at once: 9 and 10, 10 and 11, 11 and 12, 12 and 16, 16 and 17 (15 and 16 never fail together); commands refused by 12 and
    -- 12, 14 and 12, 15 and 12
    ∷ case bad_window (0 ∷ fill) [] 120 2
    ∷ case (panel 4) (0 ∷ fill) [] 120 2
    ∷ case (panel 4) strange [] 120 2
    ∷ case (panel 8) strange four_words 1000 2
    ∷ case (panel 8) fill four_words 48 2
    ∷ case (panel 8) (fill ++ strange ++ strange) [] 1000 2
    ∷ case (panel 8) (fill ++ outside ++ strange) [] 1000 2
    ∷ case (panel 8) (write ++ strange) [] 1000 2
    -- the long form (02, g): three commands, 10 by a short record, a command refused by 12 to 15 each, 17
    ∷ long_case (panel 8) (long fill ++ long write ++ long move) four_words 298 298
    ∷ long_case (panel 8) fill [] 1000 2
    ∷ long_case (panel 8) (long fill ++ long strange) [] 1000 2
    ∷ long_case (panel 8) (long fill ++ long empty) [] 1000 2
    ∷ long_case (panel 8) (long outside ++ long fill) [] 1000 2
    ∷ long_case (panel 8) (long fill ++ long write ++ long write) (0x201 ∷ 3 ∷ four_words) 1000 2
    ∷ long_case (panel 8) (long fill) [] 119 2
    -- a pattern fill (02, h), and one that draws over its pattern behind it
    ∷ long_case (panel 8) (long fill ++ hatched) [] 194 194
    ∷ long_case (panel 8) (long fill ++ hatched ++ overdrawn) four_words 1000 2
    ∷ []

abbrev expected : List Result
expected =
    accepted 48 1 (screen_bytes 0xA ++ (7 ∷ 7 ∷ []))
    ∷ accepted 120 8 (screen_bytes 0x50 ++ fill_bytes ++ (7 ∷ 7 ∷ []))
    ∷ accepted 192 8 (screen_bytes 0x50 ++ fill_bytes ++ move_bytes ++ (7 ∷ 7 ∷ []))
    ∷ accepted 296 8 (screen_bytes 0x50 ++ fill_bytes ++ write_bytes four_words ++ move_bytes ++ (7 ∷ 7 ∷ []))
    ∷ accepted 256 8 (screen_bytes 0x50 ++ write_bytes four_words ++ write_bytes four_words')
    ∷ record { numbers = 0 ∷ 0 ∷ 48 ∷ 4 ∷ 3 ∷ 1 ∷ []; from = 0; size = 0; bytes = [] }
    ∷ accepted 4656 8 []
    ∷ refused 1
    ∷ refused 2
    ∷ refused 10
    ∷ refused 10
    ∷ refused 11
    ∷ refused_command 12 1
    ∷ refused_command 13 1
    ∷ refused_command 14 0
    ∷ refused_command 15 2
    ∷ refused 16
    ∷ refused 17
    ∷ refused 9
    ∷ refused 10
    ∷ refused 11
    ∷ refused_command 12 0
    ∷ refused 16
    ∷ refused_command 12 1
    ∷ refused_command 14 1
    ∷ refused_command 15 0
    ∷ accepted 296 8 (screen_bytes 0x50 ++ fill_bytes ++ write_bytes four_words ++ move_bytes ++ (7 ∷ 7 ∷ []))
    ∷ refused 10
    ∷ refused_long 12 1
    ∷ refused_long 13 1
    ∷ refused_long 14 0
    ∷ refused_long 15 2
    ∷ refused 17
    ∷ accepted 192 8 (screen_bytes 0x50 ++ fill_bytes ++ hatched_bytes ++ (7 ∷ 7 ∷ []))
    ∷ refused_long 29 2
    ∷ []

pub cases_hold : map run cases ≡ expected
unfolding all_zero record_bytes stream_bytes first_of is_depth image_end start_of fields_of well_formed panel_ok view_width view_height whole_dwords main_image window_image line_ok image_ok window_ok window_whole field_rows screen_rows window_x window_y origin_of values_of command_of surface_of address_of destination_of source_of must_be_zero pattern_fits formed inside_image placed any_of share_byte clashes line_words words_taken command_rows refusal is_negative last_column last_line command_value pattern_value source_value destination_value control_value blit_values parts_from parts_of records_with screen_records data_records command_records draw_records records_for list_rows first_refusal all_words word_rows task_refusal room_rows refusal_of compiling stream_of buffer_after numbers_of part_from part_size
cases_hold = refl

-- the numbers of an answer, and the answer with these numbers
abbrev outside_7 : Refused
outside_7 = record { refusal = Outside; place = 7 }

abbrev bytes_120 : Compiled
bytes_120 = record { length = 120; depth = 8; rotation = 1; flag = 0 }

pub answers : (compiling_of (Err outside_7) ≡ record { number = 14; place = 7; length = 0; depth = 0; rotation = 0; flag = 0 })
    × (compiling_of (Ok bytes_120) ≡ record { number = 0; place = 0; length = 120; depth = 8; rotation = 1; flag = 0 })
    × (answer_of (record { number = 14; place = 7; length = 0; depth = 0; rotation = 0; flag = 0 }) ≡ Err outside_7)
    × (answer_of (record { number = 0; place = 0; length = 120; depth = 8; rotation = 1; flag = 0 }) ≡ Ok bytes_120)
unfolding compiling_by answer_of refusals.answered_at refusals.number refusals.refusal
answers = (refl, refl, refl, refl)

-- a refusal that is no name, but any number and place
pub by_number : compiling_by {E = ℕ × ℕ} (λ r. r.0) (λ r. r.1) (Err (31, 5)) ≡ record { number = 31; place = 5; length = 0; depth = 0; rotation = 0; flag = 0 }
unfolding compiling_by
by_number = refl
