-- Cases by computation: a strip of two hours and a number of one digit that a screen holds, its pixels, and the first lines of its sheet.
use Prim.Native.Nat.{ℕ}
use mathlib.Core.Path.{◌≡◌, refl}
use mathlib.Core.Bool.{true, false}
use mathlib.Core.List.{List, [], ◌∷◌, map}
use lib.ListN.{take, drop, replicate}
use Rattle.record.specs.Bytes.{all_zero}
use Rattle.record.specs.Checks.{first_of}
use Rattle.record.specs.Lists.{parts_from, parts_of}
use Rattle.pixel.specs.Depth.{is_depth}
use Rattle.pixel.specs.Pixel.{byte_of}
use Rattle.pixel.specs.Raster.{bitwise}
use Rattle.screen.specs.Image.{image_end}
use Rattle.screen.specs.Screen.{fields_of, well_formed, panel_ok, view_width, view_height, whole_dwords, main_image, window_image, line_ok, image_ok, window_ok, window_whole, field_rows, screen_rows}
use Rattle.screen.specs.declared.Image.{Image}
use Rattle.screen.specs.Cases.{plain}
use Rattle.command.specs.Command.{command_of, command_bytes, surface_of, inside_image, line_words, words_taken}
use Rattle.unit.specs.Sheet.{sheet_pixel, host_pixel, sheet_source, sheet_mix, new_pixel, changes, sheet_byte, sheet_command, sheet_commands}
use Rattle.ring.specs.Kept.{slot_hour, hour_in, heights_of}
use Rattle.ring.specs.declared.Ring.{Ring}
use Rattle.wear.specs.Font.{finding, glyph_of, glyph_bit, last_decimal_digits}
use Rattle.wear.specs.Strip.{Strip, strip_for, column, columns, writes, strip_commands, list_bytes, strip_list, strip_words, glyph_colour, glyph_word, glyph_words, digit_words, all_in_reach, ask_rows, strip_rows, stripping}
use Rattle.wear.specs.declared.Ask.{Ask}
use Rattle.trend.specs.Trend.{holds, Fits, in_columns, in_number}

-- hour 6 of height 95 and hour 7 of height 100; every glyph is a stroke down the left
abbrev ring : Ring
ring = record { any = 1; newest = 7; numbers = 0 ∷ 0 ∷ 0 ∷ 0 ∷ 0 ∷ 0 ∷ 6 ∷ 7 ∷ []; heights = 0 ∷ 0 ∷ 0 ∷ 0 ∷ 0 ∷ 0 ∷ 96 ∷ 101 ∷ [] }

abbrev ask : ℕ → Ask
ask depth = record { hours = 2; depth = depth; x = 3; y = 1; column = 5; bar = 200; background = 7 }

abbrev strip : ℕ → Strip
strip depth = strip_for ring (ask depth) [] (replicate 80 0x80)

-- a panel of 16 by 112
abbrev screen : ℕ → List ℕ
screen depth = plain depth 0 16 112 0

-- there are strips that fit, at both depths: five commands of 32 bytes, and 32 or 64 words
pub fits_8 : Fits (screen 8) (strip 8)
unfolding all_zero first_of is_depth image_end fields_of well_formed panel_ok view_width view_height whole_dwords main_image window_image line_ok image_ok window_ok window_whole field_rows screen_rows command_bytes inside_image line_words slot_hour hour_in heights_of finding glyph_of glyph_bit last_decimal_digits column columns writes strip_commands list_bytes glyph_colour glyph_word glyph_words digit_words all_in_reach ask_rows strip_rows stripping holds
fits_8 = record { accepted = refl; depth = refl; holds = refl; room = 160; words = 32; made = refl }

pub fits_16 : Fits (screen 16) (strip 16)
unfolding all_zero first_of is_depth image_end fields_of well_formed panel_ok view_width view_height whole_dwords main_image window_image line_ok image_ok window_ok window_whole field_rows screen_rows command_bytes inside_image line_words slot_hour hour_in heights_of finding glyph_of glyph_bit last_decimal_digits column columns writes strip_commands list_bytes glyph_colour glyph_word glyph_words digit_words all_in_reach ask_rows strip_rows stripping holds
fits_16 = record { accepted = refl; depth = refl; holds = refl; room = 160; words = 64; made = refl }

-- ---- which images hold it: exactly wide and high enough, one column less, one line less; without a number, one column less and 101 lines
abbrev sized : ℕ → ℕ → Image
sized width height = record { base = 0; line = 16; width = width; height = height }

abbrev bare : Strip
bare = strip_for (record { any = 0; newest = 0; numbers = []; heights = [] }) (ask 8) [] (replicate 80 0x80)

pub held : holds (sized 13 109) (strip 8) ∷ holds (sized 12 109) (strip 8) ∷ holds (sized 13 108) (strip 8) ∷ holds (sized 13 101) bare ∷ holds (sized 12 101) bare ∷ holds (sized 13 100) bare ∷ []
    ≡ true ∷ false ∷ false ∷ true ∷ false ∷ false ∷ []
unfolding inside_image slot_hour hour_in heights_of last_decimal_digits holds
held = refl

-- ---- which pixels are the columns' and which the number's: the corners, and a pixel past each
pub of_columns : in_columns (strip 8) 3 1 ∷ in_columns (strip 8) 12 100 ∷ in_columns (strip 8) 2 1 ∷ in_columns (strip 8) 3 0 ∷ in_columns (strip 8) 13 100 ∷ in_columns (strip 8) 12 101 ∷ []
    ≡ true ∷ true ∷ false ∷ false ∷ false ∷ false ∷ []
unfolding in_columns
of_columns = refl

pub of_number : in_number (strip 8) 3 101 ∷ in_number (strip 8) 10 108 ∷ in_number (strip 8) 2 101 ∷ in_number (strip 8) 3 100 ∷ in_number (strip 8) 11 108 ∷ in_number (strip 8) 10 109 ∷ in_number bare 3 101 ∷ []
    ≡ true ∷ true ∷ false ∷ false ∷ false ∷ false ∷ false ∷ []
unfolding last_decimal_digits in_number
of_number = refl

-- ---- seven lines of 16 bytes of the sheet at depth 8: the older hour on the left, its bar five lines below the newer one's
abbrev sheet : List ℕ
sheet = sheet_commands (fields_of (screen 8)) (parts_of 32 (strip_list (strip 8))) (strip_words (strip 8)) (replicate 112 1)

abbrev lines : List (List ℕ)
lines = map (λ n. take 16 (drop n sheet)) (0 ∷ 16 ∷ 80 ∷ 96 ∷ [])

pub drawn_lines : lines
    ≡ replicate 16 1
    ∷ (1 ∷ 1 ∷ 1 ∷ 7 ∷ 7 ∷ 7 ∷ 7 ∷ 7 ∷ 200 ∷ 200 ∷ 200 ∷ 200 ∷ 200 ∷ 1 ∷ 1 ∷ 1 ∷ [])
    ∷ (1 ∷ 1 ∷ 1 ∷ 7 ∷ 7 ∷ 7 ∷ 7 ∷ 7 ∷ 200 ∷ 200 ∷ 200 ∷ 200 ∷ 200 ∷ 1 ∷ 1 ∷ 1 ∷ [])
    ∷ (1 ∷ 1 ∷ 1 ∷ 200 ∷ 200 ∷ 200 ∷ 200 ∷ 200 ∷ 200 ∷ 200 ∷ 200 ∷ 200 ∷ 200 ∷ 1 ∷ 1 ∷ 1 ∷ [])
    ∷ []
unfolding byte_of bitwise fields_of view_width view_height main_image window_image parts_from parts_of command_of command_bytes surface_of line_words words_taken sheet_pixel host_pixel sheet_source sheet_mix new_pixel changes sheet_byte sheet_command sheet_commands slot_hour hour_in heights_of finding glyph_of glyph_bit last_decimal_digits column columns writes strip_commands list_bytes glyph_colour glyph_word glyph_words digit_words
drawn_lines = refl
