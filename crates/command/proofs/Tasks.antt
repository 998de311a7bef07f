-- Cases by computation: tasks, with the first refusal of 1 to 16, 26 and 29, and its place.
use Prim.Native.Nat.{ℕ, zero, suc}
use mathlib.Core.Path.{◌≡◌, refl}
use mathlib.Core.List.{List, [], ◌∷◌, ◌++◌, map}
use mathlib.Core.Bool.{true, false}
use lib.ListN.{replicate}
use Rattle.record.specs.Bytes.{all_zero}
use Rattle.record.specs.Lists.{parts_from, parts_of}
use Rattle.record.specs.Checks.{first_of, Refusal}
use Rattle.pixel.specs.Depth.{is_depth}
use Rattle.screen.specs.Image.{image_end, start_of}
use Rattle.screen.specs.Screen.{memory_size, fields_of, well_formed, panel_ok, view_width, view_height, whole_dwords, main_image, window_image, line_ok, image_ok, window_ok, window_whole, field_rows, screen_rows}
use Rattle.screen.specs.Values.{window_x, window_y, origin_of, values_of}
use Rattle.screen.specs.Cases.{lined, plain}
use Rattle.command.specs.Command.{command_of, surface_of, address_of, destination_of, source_of, must_be_zero, pattern_fits, formed, inside_image, placed, clashes, line_words, words_taken, command_rows, refusal}
use Rattle.command.specs.Sharing.{any_of, share_byte}
use Rattle.command.specs.Task.{short_form, long_form, Task, task, list_rows, first_refusal, all_words, word_rows, task_refusal, is_accepted}

-- 320 by 240 at a depth, base 0
abbrev pub panel : ℕ → List ℕ
panel depth = plain depth 0 320 240 0

-- the same at depth 8 with a window of 8 by 1 whose base is 2
abbrev pub bad_window : List ℕ
bad_window = 8 ∷ 0 ∷ 1 ∷ 0 ∷ 64 ∷ 1 ∷ 240 ∷ 0 ∷ 0 ∷ 0 ∷ 0 ∷ 0 ∷ 2 ∷ 0 ∷ 0 ∷ 0 ∷ 0 ∷ 0 ∷ 0 ∷ 0 ∷ 8 ∷ 0 ∷ 1 ∷ replicate 9 0

-- B1's fill; a move by one pixel to the right; a write of three by two pixels
abbrev pub fill : List ℕ
fill = 0 ∷ 0 ∷ 0 ∷ 0 ∷ 10 ∷ 0 ∷ 20 ∷ 0 ∷ 100 ∷ 0 ∷ 150 ∷ 0 ∷ 0 ∷ 0 ∷ 0 ∷ 0 ∷ 1 ∷ replicate 15 0

abbrev pub move : List ℕ
move = 1 ∷ 0 ∷ 0xC ∷ 0 ∷ 1 ∷ 0 ∷ 0 ∷ 0 ∷ 7 ∷ 0 ∷ 1 ∷ 0 ∷ replicate 20 0

abbrev pub write : List ℕ
write = 2 ∷ 0 ∷ 0xC ∷ 0 ∷ 1 ∷ 0 ∷ 0 ∷ 0 ∷ 3 ∷ 0 ∷ 2 ∷ 0 ∷ replicate 20 0

-- operation 6; a rectangle of no width; one that ends past the surface
abbrev pub strange : List ℕ
strange = 6 ∷ replicate 31 0

abbrev pub empty : List ℕ
empty = 0 ∷ 0 ∷ 0 ∷ 0 ∷ 10 ∷ 0 ∷ 20 ∷ 0 ∷ 0 ∷ 0 ∷ 150 ∷ 0 ∷ replicate 20 0

abbrev pub outside : List ℕ
outside = 0 ∷ 0 ∷ 0 ∷ 0 ∷ 10 ∷ 0 ∷ 91 ∷ 0 ∷ 100 ∷ 0 ∷ 150 ∷ 0 ∷ replicate 20 0

-- lines of 640 pixels, of which 320 are shown, and a fill that ends ten pixels past these
abbrev wide : List ℕ
wide = lined 8 0 320 240 0 640

abbrev past : List ℕ
past = 0 ∷ 0 ∷ 0 ∷ 0 ∷ 230 ∷ 0 ∷ 20 ∷ 0 ∷ 100 ∷ 0 ∷ 150 ∷ 0 ∷ replicate 20 0

-- in the long form: a pattern fill of 100 by 150 pixels with the pattern at 3C000h, and one with the pattern at 0, which it draws over
abbrev pub hatched : List ℕ
hatched = 3 ∷ 0 ∷ 0xC ∷ 0 ∷ 10 ∷ 0 ∷ 20 ∷ 0 ∷ 100 ∷ 0 ∷ 150 ∷ 0 ∷ replicate 22 0 ++ (3 ∷ 4 ∷ 0 ∷ 0xC0 ∷ 3 ∷ 0 ∷ replicate 8 0)

abbrev pub overdrawn : List ℕ
overdrawn = 3 ∷ 0 ∷ 0xC ∷ 0 ∷ 10 ∷ 0 ∷ 0 ∷ 0 ∷ 100 ∷ 0 ∷ 150 ∷ 0 ∷ replicate 36 0

abbrev pub times : ℕ → List ℕ → List ℕ
times zero l = []
times (suc n) l = l ++ times n l

-- a record in the long form
abbrev pub long : List ℕ → List ℕ
long b = b ++ replicate 16 0

abbrev pub four_words : List ℕ
four_words = 0x201 ∷ 3 ∷ 0x504 ∷ 6 ∷ []

abbrev refused : ℕ → ℕ → Refusal
refused n i = record { number = n; place = i }

-- accepted: a screen alone, two writes with their words, 64 commands. Then 1, 9 before 10, 10 before 11, 65 commands, 11 before 12, 12
-- before 16, 14 before a later 12, 15 by the words that are left, 16. Then long lines: accepted, 14 past what is shown, 26 before 10. Then the long form (02, g): two
-- writes with their words, 64 commands, 65; a short record as a long list and a long one as a short list; three short records as two long ones,
-- and two long ones as three short ones; 12 by the operation, and by byte 33; 15. Then a pattern
-- fill behind a write, 29 before a later 15, and pattern fills as a short list: 12. Then numbers of no form: 9 before 10, an empty list,
-- 10 before 11
abbrev tasks : List Task
tasks =
    task short_form (panel 1) [] []
    ∷ task short_form (panel 8) (fill ++ write ++ write) (four_words ++ four_words)
    ∷ task short_form (panel 8) (times 64 fill) []
    ∷ task short_form [] [] []
    ∷ task short_form bad_window (0 ∷ fill) []
    ∷ task short_form (panel 4) (0 ∷ fill) []
    ∷ task short_form (panel 8) (times 65 fill) []
    ∷ task short_form (panel 4) strange []
    ∷ task short_form (panel 8) (fill ++ strange) four_words
    ∷ task short_form (panel 8) (fill ++ outside ++ strange) []
    ∷ task short_form (panel 8) (write ++ fill ++ write) (0 ∷ four_words)
    ∷ task short_form (panel 8) (fill ++ write) (0 ∷ four_words)
    ∷ task short_form wide fill []
    ∷ task short_form wide (fill ++ past) []
    ∷ task short_form (lined 8 0 320 240 0 8) (0 ∷ fill) []
    ∷ task long_form (panel 8) (long fill ++ long write ++ long write) (four_words ++ four_words)
    ∷ task long_form (panel 8) (times 64 (long fill)) []
    ∷ task long_form (panel 8) (times 65 (long fill)) []
    ∷ task long_form (panel 8) fill []
    ∷ task short_form (panel 8) (long fill) []
    ∷ task long_form (panel 8) (times 3 fill) []
    ∷ task short_form (panel 8) (long fill ++ long fill) []
    ∷ task long_form (panel 8) (long fill ++ long strange) []
    ∷ task long_form (panel 8) (long fill ++ fill ++ (0 ∷ 1 ∷ replicate 14 0)) []
    ∷ task long_form (panel 8) (long write ++ long fill ++ long write) (0 ∷ four_words)
    ∷ task long_form (panel 8) (long write ++ hatched) four_words
    ∷ task long_form (panel 8) (hatched ++ overdrawn ++ long write) []
    ∷ task short_form (panel 8) (times 2 hatched) []
    ∷ task 0 bad_window [] []
    ∷ task 0 (panel 8) [] []
    ∷ task 33 (panel 8) [] []
    ∷ task 96 (panel 4) (long fill ++ long fill) []
    ∷ []

abbrev refusals : List Refusal
refusals =
    refused 0 0 ∷ refused 0 0 ∷ refused 0 0 ∷ refused 1 0 ∷ refused 9 0 ∷ refused 10 0 ∷ refused 10 0 ∷ refused 11 0 ∷ refused 12 1 ∷ refused 14 1 ∷ refused 15 2 ∷ refused 16 0
    ∷ refused 0 0 ∷ refused 14 1 ∷ refused 26 0
    ∷ refused 0 0 ∷ refused 0 0 ∷ refused 10 0 ∷ refused 10 0 ∷ refused 10 0 ∷ refused 12 0 ∷ refused 12 1 ∷ refused 12 1 ∷ refused 12 1 ∷ refused 15 2
    ∷ refused 0 0 ∷ refused 29 1 ∷ refused 12 0
    ∷ refused 9 0 ∷ refused 10 0 ∷ refused 10 0 ∷ refused 10 0
    ∷ []

pub tasks_hold : map (task_refusal memory_size) tasks ≡ refusals
unfolding all_zero first_of parts_from parts_of is_depth image_end start_of fields_of well_formed panel_ok view_width view_height whole_dwords main_image window_image line_ok image_ok window_ok window_whole field_rows screen_rows window_x window_y origin_of values_of command_of surface_of address_of destination_of source_of must_be_zero pattern_fits formed inside_image placed any_of share_byte clashes line_words words_taken command_rows refusal list_rows first_refusal all_words word_rows task_refusal
tasks_hold = refl

pub accepted_hold : map (is_accepted memory_size) (task short_form (panel 1) [] [] ∷ task short_form [] [] [] ∷ []) ≡ true ∷ false ∷ []
unfolding all_zero first_of parts_from parts_of is_depth image_end start_of fields_of well_formed panel_ok view_width view_height whole_dwords main_image window_image line_ok image_ok window_ok window_whole field_rows screen_rows window_x window_y origin_of values_of list_rows first_refusal all_words word_rows task_refusal
accepted_hold = refl
