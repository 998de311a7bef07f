-- Cases by computation, their numbers worked out by hand from 02, g): lists turned long and short, each refusal and two at once, and the long form compiled.
use Prim.Native.Nat.{ℕ}
use mathlib.Core.Path.{◌≡◌, refl}
use mathlib.Core.List.{List, [], ◌∷◌, ◌++◌, map}
use mathlib.Core.Bool.{true, false}
use lib.ListN.{length, replicate, set}
use Rattle.record.specs.Bytes.{all_zero}
use Rattle.record.specs.Lists.{parts_from, parts_of}
use Rattle.record.specs.Checks.{first_of}
use Rattle.pixel.specs.Depth.{is_depth}
use Rattle.screen.specs.Image.{image_end, start_of}
use Rattle.screen.specs.Screen.{memory_size, fields_of, well_formed, panel_ok, view_width, view_height, whole_dwords, main_image, window_image, line_ok, image_ok, window_ok, window_whole, field_rows, screen_rows}
use Rattle.screen.specs.Cases.{plain}
use Rattle.screen.specs.Values.{window_x, window_y, origin_of, values_of}
use Rattle.command.specs.Sharing.{any_of, share_byte}
use Rattle.command.specs.Command.{command_of, surface_of, address_of, destination_of, source_of, must_be_zero, pattern_fits, formed, inside_image, placed, clashes, line_words, words_taken, command_rows, refusal}
use Rattle.command.specs.Values.{is_negative, last_column, last_line, command_value, pattern_value, source_value, destination_value, control_value, blit_values}
use Rattle.command.specs.Task.{short_form, long_form, task, list_rows, first_refusal, all_words, word_rows, task_refusal}
use Rattle.command.proofs.Tasks.{panel, fill, move, write, times, four_words}
use Rattle.compiler.specs.Stream.{records_with, screen_records, data_records, command_records, draw_records, records_for}
use Rattle.compiler.specs.Compile.{room_rows, refusal_of, compiling, numbers_of}
use Rattle.compiler.specs.Part.{part_from, part_size}
use Rattle.older.specs.Bytes.{older_bytes}
use Rattle.older.specs.Compile.{older_records, lent_rows, older_rows, older_compiling}
use Rattle.form.specs.Turn.{record_in, list_of, turned_list, any_stays_long, turn_rows, turning, turned_into}
use Rattle.form.specs.Claims.{turned_given, none_above, part_bytes}
use Rattle.form.specs.declared.Turned.{Turned}

-- two records of 32 bytes, operations 2 and 1, whose other bytes are their places, in the second 100 above them
abbrev one : List ℕ
one =
    2 ∷ 1 ∷ 2 ∷ 3 ∷ 4 ∷ 5 ∷ 6 ∷ 7 ∷ 8 ∷ 9 ∷ 10 ∷ 11 ∷ 12 ∷ 13 ∷ 14 ∷ 15
    ∷ 16 ∷ 17 ∷ 18 ∷ 19 ∷ 20 ∷ 21 ∷ 22 ∷ 23 ∷ 24 ∷ 25 ∷ 26 ∷ 27 ∷ 28 ∷ 29 ∷ 30 ∷ 31 ∷ []

abbrev two : List ℕ
two =
    1 ∷ 101 ∷ 102 ∷ 103 ∷ 104 ∷ 105 ∷ 106 ∷ 107 ∷ 108 ∷ 109 ∷ 110 ∷ 111 ∷ 112 ∷ 113 ∷ 114 ∷ 115
    ∷ 116 ∷ 117 ∷ 118 ∷ 119 ∷ 120 ∷ 121 ∷ 122 ∷ 123 ∷ 124 ∷ 125 ∷ 126 ∷ 127 ∷ 128 ∷ 129 ∷ 130 ∷ 131 ∷ []

-- a pattern fill of 8 by 1 pixels
abbrev strange : List ℕ
strange = 3 ∷ 0 ∷ 0xC ∷ 0 ∷ 0 ∷ 0 ∷ 0 ∷ 0 ∷ 8 ∷ 0 ∷ 1 ∷ replicate 21 0

abbrev sixteen : List ℕ
sixteen = 0 ∷ 0 ∷ 0 ∷ 0 ∷ 0 ∷ 0 ∷ 0 ∷ 0 ∷ 0 ∷ 0 ∷ 0 ∷ 0 ∷ 0 ∷ 0 ∷ 0 ∷ 0 ∷ []

-- the same with another byte at a place of the second record
abbrev two_with : ℕ → ℕ → List ℕ
two_with at v = set (two ++ sixteen) at v

-- a list turned into a target of so many sevens: the answer, and the target afterwards
pub record Case : Type 0 where
  pub from : ℕ
  pub to : ℕ
  pub list : List ℕ
  pub room : ℕ

pub record Result : Type 0 where
  pub answer : Turned
  pub bytes : List ℕ

abbrev there : List ℕ → ℕ → Case
there list room = record { from = short_form; to = long_form; list = list; room = room }

abbrev back : List ℕ → ℕ → Case
back list room = record { from = long_form; to = short_form; list = list; room = room }

abbrev run : Case → Result
run c =
    let old : List ℕ = replicate c.room 7 in
    record { answer = turning c.from c.to c.list (length old); bytes = turned_into c.from c.to c.list old }

abbrev accepted : ℕ → List ℕ → Result
accepted n bytes = record { answer = record { number = 0; length = n }; bytes = bytes }

abbrev refused : ℕ → ℕ → Result
refused n room = record { answer = record { number = n; length = 0 }; bytes = replicate room 7 }

-- there: two records, past which four bytes stay; exactly enough room; an empty list; operation 3. Back: two records, past which two bytes stay; exactly
-- enough room; an empty list. Then two long records, taken as three short ones, there
abbrev accepts : List Case
accepts =
    there (one ++ two) 100
    ∷ there (one ++ two) 96
    ∷ there [] 3
    ∷ there (one ++ strange) 96
    ∷ back (one ++ sixteen ++ two ++ sixteen) 66
    ∷ back (one ++ sixteen ++ two ++ sixteen) 64
    ∷ back [] 3
    ∷ there (one ++ sixteen ++ sixteen ++ two) 145
    ∷ []

abbrev accepted_as : List Result
accepted_as =
    accepted 96 (one ++ sixteen ++ two ++ sixteen ++ (7 ∷ 7 ∷ 7 ∷ 7 ∷ []))
    ∷ accepted 96 (one ++ sixteen ++ two ++ sixteen)
    ∷ accepted 0 (7 ∷ 7 ∷ 7 ∷ [])
    ∷ accepted 96 (one ++ sixteen ++ strange ++ sixteen)
    ∷ accepted 64 (one ++ two ++ (7 ∷ 7 ∷ []))
    ∷ accepted 64 (one ++ two)
    ∷ accepted 0 (7 ∷ 7 ∷ 7 ∷ [])
    ∷ accepted 144 (one ++ sixteen ++ replicate 48 0 ++ two ++ sixteen ++ (7 ∷ []))
    ∷ []

pub accepts_hold : map run accepts ≡ accepted_as
unfolding all_zero first_of parts_from parts_of list_of turned_list any_stays_long turn_rows turning turned_into
accepts_hold = refl

-- there: a byte too many, a long record as a short list, 65 commands; a byte too little room; 10 and 17. Back: a short record, 65 commands; a byte too
-- little room; in the second command operation 3 and 255, byte 32, byte 47, and in the first operation 3, byte 40; three short records, taken as two
-- long ones; 10 and 17, 17 and 28, 10 and 28, all three
abbrev refuses : List Case
refuses =
    there (0 ∷ one) 100
    ∷ there (one ++ sixteen) 100
    ∷ there (times 65 one) 3120
    ∷ there (one ++ two) 95
    ∷ there (0 ∷ one) 0
    ∷ back one 100
    ∷ back (times 65 (one ++ sixteen)) 2080
    ∷ back (one ++ sixteen ++ two ++ sixteen) 63
    ∷ back (one ++ sixteen ++ two_with 0 3) 64
    ∷ back (one ++ sixteen ++ two_with 0 255) 64
    ∷ back (one ++ sixteen ++ two_with 32 1) 64
    ∷ back (one ++ sixteen ++ two_with 47 1) 64
    ∷ back (two_with 0 3 ++ one ++ sixteen) 64
    ∷ back (two_with 40 1 ++ one ++ sixteen) 64
    ∷ back (one ++ two ++ one) 64
    ∷ back one 0
    ∷ back (one ++ sixteen ++ two_with 0 3) 63
    ∷ back (two_with 0 3 ++ (0 ∷ [])) 64
    ∷ back (two_with 0 3 ++ (0 ∷ [])) 0
    ∷ []

abbrev refused_as : List Result
refused_as =
    refused 10 100
    ∷ refused 10 100
    ∷ refused 10 3120
    ∷ refused 17 95
    ∷ refused 10 0
    ∷ refused 10 100
    ∷ refused 10 2080
    ∷ refused 17 63
    ∷ refused 28 64
    ∷ refused 28 64
    ∷ refused 28 64
    ∷ refused 28 64
    ∷ refused 28 64
    ∷ refused 28 64
    ∷ refused 28 64
    ∷ refused 10 0
    ∷ refused 17 63
    ∷ refused 10 64
    ∷ refused 10 0
    ∷ []

pub refuses_hold : map run refuses ≡ refused_as
unfolding all_zero first_of parts_from parts_of list_of turned_list any_stays_long turn_rows turning turned_into
refuses_hold = refl

-- 64 commands: 64 × 48 bytes there, 64 × 32 back
pub whole_hold : (turning short_form long_form (times 64 one) 3072 ≡ record { number = 0; length = 3072 })
    × (turning long_form short_form (times 64 (one ++ sixteen)) 2048 ≡ record { number = 0; length = 2048 })
unfolding all_zero first_of parts_from parts_of list_of turned_list any_stays_long turn_rows turning
whole_hold = (refl, refl)

-- a record in a form: from 32 bytes, and from 48
pub records_hold : (record_in long_form one ≡ one ++ sixteen)
    × (record_in long_form (two_with 47 1) ≡ two ++ sixteen)
    × (record_in short_form (two_with 47 1) ≡ two)
    × (record_in short_form one ≡ one)
records_hold = (refl, refl, refl, refl)

-- records one behind another
pub list_holds : list_of ((1 ∷ 2 ∷ []) ∷ [] ∷ (3 ∷ []) ∷ []) ≡ 1 ∷ 2 ∷ 3 ∷ []
unfolding list_of
list_holds = refl

-- no operation above 2: none at all, 2 and 1, 3 at the end and at the start
pub above_hold : map none_above ([] ∷ (one ∷ two ∷ []) ∷ (one ∷ strange ∷ []) ∷ (strange ∷ one ∷ []) ∷ []) ≡ true ∷ true ∷ false ∷ false ∷ []
unfolding none_above
above_hold = refl

-- turned, in the length that turning gave; refused, nothing
pub given_hold : (turned_given short_form long_form two (replicate 50 7) ≡ two ++ sixteen) × (turned_given short_form long_form two (replicate 47 7) ≡ [])
unfolding first_of parts_from parts_of list_of turned_list turn_rows turning turned_into
given_hold = (refl, refl)

-- ---- compiled in both forms
abbrev short : List ℕ
short = fill ++ write ++ move

-- six screen records, nine for each command and four words: 6 + 27 + 4 records of 8 bytes
pub compiles_hold : map numbers_of (compiling memory_size (task long_form (panel 8) (turned_list short_form long_form short) four_words) 296 ∷ compiling memory_size (task short_form (panel 8) short four_words) 296 ∷ [])
    ≡ (0 ∷ 0 ∷ 296 ∷ 8 ∷ 0 ∷ 0 ∷ []) ∷ (0 ∷ 0 ∷ 296 ∷ 8 ∷ 0 ∷ 0 ∷ []) ∷ []
unfolding all_zero first_of parts_from parts_of is_depth image_end start_of fields_of well_formed panel_ok view_width view_height whole_dwords main_image window_image line_ok image_ok window_ok window_whole field_rows screen_rows window_x window_y origin_of values_of command_of surface_of address_of destination_of source_of must_be_zero pattern_fits formed inside_image placed any_of share_byte clashes line_words words_taken command_rows refusal is_negative last_column last_line command_value pattern_value source_value destination_value control_value blit_values records_with screen_records data_records command_records draw_records records_for list_rows first_refusal all_words word_rows task_refusal room_rows refusal_of compiling numbers_of list_of turned_list
compiles_hold = refl

-- operation 3 is 12 in the short form, and accepted in the long one where its pattern, at 0, lies before the image: so the premise of turned lists
pub above_compiles : (compiling memory_size (task short_form (plain 8 0 320 240 64) strange []) 296).number ∷ (compiling memory_size (task long_form (plain 8 0 320 240 64) (turned_list short_form long_form strange) []) 296).number ∷ []
    ≡ 12 ∷ 0 ∷ []
unfolding all_zero first_of parts_from parts_of is_depth image_end start_of fields_of well_formed panel_ok view_width view_height whole_dwords main_image window_image line_ok image_ok window_ok window_whole field_rows screen_rows window_x window_y origin_of values_of command_of surface_of address_of destination_of source_of must_be_zero pattern_fits formed inside_image placed any_of share_byte clashes line_words words_taken command_rows refusal is_negative last_column last_line command_value pattern_value source_value destination_value control_value blit_values records_with screen_records data_records command_records draw_records records_for list_rows first_refusal all_words word_rows task_refusal room_rows refusal_of compiling numbers_of list_of turned_list
above_compiles = refl

-- the part of a refused command: 29 by its pattern and 12 by byte 47, each in the second command; accepted, none; 12 by operation 3
abbrev part : ℕ → List ℕ → List ℕ
part form list = part_bytes form list (compiling memory_size (task form (panel 8) list []) 1000)

pub parts_hold : (part long_form (fill ++ sixteen ++ strange ++ sixteen) ≡ strange ++ sixteen)
    × (part long_form (fill ++ sixteen ++ set (fill ++ sixteen) 47 1) ≡ set (fill ++ sixteen) 47 1)
    × (part long_form (fill ++ sixteen) ≡ [])
    × (part short_form (fill ++ strange) ≡ strange)
unfolding all_zero first_of parts_from parts_of is_depth image_end start_of fields_of well_formed panel_ok view_width view_height whole_dwords main_image window_image line_ok image_ok window_ok window_whole field_rows screen_rows window_x window_y origin_of values_of command_of surface_of address_of destination_of source_of must_be_zero pattern_fits formed inside_image placed any_of share_byte clashes line_words words_taken command_rows refusal is_negative last_column last_line command_value pattern_value source_value destination_value control_value blit_values records_with screen_records data_records command_records draw_records records_for list_rows first_refusal all_words word_rows task_refusal room_rows refusal_of compiling part_from part_size
parts_hold = (refl, refl, refl, refl)

-- the S1D13706 takes an empty list alone: 11, and 144 bytes for its 18 registers
pub older_hold : map (λ (l : List ℕ). numbers_of (older_compiling (task long_form (panel 8) (turned_list short_form long_form l) []) 144)) (short ∷ [] ∷ [])
    ≡ (11 ∷ 0 ∷ 0 ∷ 0 ∷ 0 ∷ 0 ∷ []) ∷ (0 ∷ 0 ∷ 144 ∷ 8 ∷ 0 ∷ 0 ∷ []) ∷ []
unfolding all_zero first_of parts_from parts_of is_depth image_end start_of fields_of well_formed panel_ok view_width view_height whole_dwords main_image window_image line_ok image_ok window_ok window_whole field_rows screen_rows window_x window_y origin_of values_of records_with older_bytes older_records lent_rows older_rows older_compiling numbers_of list_of turned_list
older_hold = refl
