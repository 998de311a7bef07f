-- Some strips, computed: their commands, bytes and host words, their refusals, lengths and buffers.
use Prim.Native.Nat.{ℕ}
use mathlib.Core.Path.{◌≡◌, refl}
use mathlib.Core.List.{List, [], ◌∷◌, ◌++◌}
use lib.ListN.{take, drop, replicate}
use Rattle.record.specs.Checks.{first_of}
use Rattle.pixel.specs.Depth.{is_depth}
use Rattle.command.specs.Command.{command_bytes, line_words}
use Rattle.command.specs.declared.Command.{Command}
use Rattle.ring.specs.Kept.{empty_ring, takes, hours_on, blanked, with_sample, taking, slot_hour, hour_in, ring_after, heights_of}
use Rattle.ring.specs.declared.Ring.{Ring}
use Rattle.wear.specs.Font.{finding, glyph_of, glyph_bit, last_decimal_digits}
use Rattle.wear.specs.Strip.{ask_with, digits_in, Strip, strip_with, strip_for, column, columns, writes, strip_commands, list_bytes, strip_list, glyph_colour, glyph_word, glyph_words, digit_words, strip_words, all_in_reach, ask_rows, strip_rows, stripping, list_after, words_after, stripping_of, stripping_by, answer_of}
use Rattle.wear.specs.Limits.{command_count}
use Rattle.wear.specs.declared.Ask.{Ask}
use Rattle.std.specs.Prelude.{Ok, Err}
use Rattle.refusal.specs.Number as refusals
use Rattle.refusal.specs.declared.Refusal.TheVariants.{Room, WearRange}

abbrev command : ℕ → ℕ → ℕ → ℕ → ℕ → ℕ → ℕ → Command
command operation raster x y width height colour =
    record { operation = operation; surface = 0; raster = raster; x = x; y = y; width = width; height = height; sx = 0; sy = 0; colour = colour; key = 0; px = 0; py = 0; pattern = 0 }

-- ---- the commands
-- three hours of heights 0, 100 and 37 at (10, 20), 3 pixels each, bars of colour 5 on 9
abbrev three : Ask
three = ask_with 3 8 10 20 3 5 9

pub column_cases : columns three 0 (0 ∷ 100 ∷ 37 ∷ [])
    ≡ command 0 0 10 20 3 100 9
    ∷ command 0 0 13 20 3 100 9 ∷ command 0 0 13 20 3 100 5
    ∷ command 0 0 16 20 3 100 9 ∷ command 0 0 16 83 3 37 5
    ∷ []
unfolding column columns
column_cases = refl

-- the digits of 65,535 and of 7, and of 0, just below
abbrev write_at : ℕ → Command
write_at x = command 2 12 x 120 8 8 0

pub write_cases : (writes three 0 (digits_in 1 65535) ≡ write_at 10 ∷ write_at 18 ∷ write_at 26 ∷ write_at 34 ∷ write_at 42 ∷ [])
    × (writes three 0 (digits_in 1 7) ≡ write_at 10 ∷ [])
    × (writes three 0 (digits_in 1 0) ≡ write_at 10 ∷ [])
    × (writes three 0 (digits_in 0 7) ≡ [])
    × (digits_in 1 65535 ≡ 6 ∷ 5 ∷ 5 ∷ 3 ∷ 5 ∷ [])
    × (digits_in 5 120 ≡ 1 ∷ 2 ∷ 0 ∷ [])
unfolding last_decimal_digits writes
write_cases = (refl, refl, refl, refl, refl, refl)

-- a font whose 0 has its corners, its second pixel below, and its last line
abbrev font : List ℕ
font = 0x81 ∷ 0x40 ∷ 0 ∷ 0 ∷ 0 ∷ 0 ∷ 0 ∷ 0xFF ∷ replicate 72 0

-- the columns and then the number
pub strip_cases : (strip_commands (strip_with three (0 ∷ 1 ∷ []) (4 ∷ 2 ∷ []) [] font)
    ≡ command 0 0 10 20 3 100 9 ∷ command 0 0 13 20 3 100 9 ∷ command 0 0 13 119 3 1 5 ∷ write_at 10 ∷ write_at 18 ∷ [])
    × (command_count (0 ∷ 100 ∷ 37 ∷ []) ≡ 5)
    × (command_count [] ≡ 0)
unfolding column columns writes strip_commands command_count
strip_cases = (refl, refl, refl)

-- its bytes, for one hour and one digit
abbrev one : Ask
one = ask_with 1 8 10 20 3 5 9

pub byte_cases : strip_list (strip_with one (0 ∷ []) (7 ∷ []) [] font)
    ≡ (0 ∷ 0 ∷ 0 ∷ 0 ∷ 10 ∷ 0 ∷ 20 ∷ 0 ∷ 3 ∷ 0 ∷ 100 ∷ 0 ∷ 0 ∷ 0 ∷ 0 ∷ 0 ∷ 9 ∷ 0 ∷ replicate 14 0)
    ++ (2 ∷ 0 ∷ 12 ∷ 0 ∷ 10 ∷ 0 ∷ 120 ∷ 0 ∷ 8 ∷ 0 ∷ 8 ∷ 0 ∷ 0 ∷ 0 ∷ 0 ∷ 0 ∷ 0 ∷ 0 ∷ replicate 14 0)
unfolding command_bytes column columns writes strip_commands list_bytes
byte_cases = refl

-- samples 65,535 and 1 with an hour between them: oldest on the left, and the newest number is 1
abbrev ring : Ring
ring = ring_after empty_ring (record { sequence = 65535; height = 40 } ∷ record { sequence = 1; height = 7 } ∷ [])

pub ring_cases : (strip_for ring three [] font ≡ strip_with three (40 ∷ 0 ∷ 7 ∷ []) (1 ∷ []) [] font)
    × (strip_for ring one (9 ∷ []) font ≡ strip_with one (7 ∷ []) (1 ∷ []) (9 ∷ []) font)
    × (strip_for empty_ring one [] font ≡ strip_with one (0 ∷ []) [] [] font)
unfolding takes hours_on blanked with_sample taking slot_hour hour_in ring_after heights_of last_decimal_digits
ring_cases = (refl, refl, refl)

-- ---- the host words
-- a glyph's at depth 8, two pixels a word with the left one low, and at depth 16
pub word_cases : (glyph_words one (take 8 font)
    ≡ (2309 ∷ 2313 ∷ 2313 ∷ 1289 ∷ 1289 ∷ 2313 ∷ 2313 ∷ 2313 ∷ []) ++ replicate 20 2313 ++ replicate 4 1285)
    × (glyph_words (ask_with 1 16 10 20 3 500 9) (take 8 font)
    ≡ (500 ∷ 9 ∷ 9 ∷ 9 ∷ 9 ∷ 9 ∷ 9 ∷ 500 ∷ 9 ∷ 500 ∷ 9 ∷ 9 ∷ 9 ∷ 9 ∷ 9 ∷ 9 ∷ []) ++ replicate 40 9 ++ replicate 8 500)
unfolding line_words glyph_bit glyph_colour glyph_word glyph_words
word_cases = (refl, refl)

-- of digits, one behind the other: a 1, which this font leaves blank, and a 0; the site's 0 where it has one
pub digit_cases : (strip_words (strip_with one (0 ∷ []) (1 ∷ 0 ∷ []) [] font)
    ≡ replicate 32 2313 ++ (2309 ∷ 2313 ∷ 2313 ∷ 1289 ∷ 1289 ∷ 2313 ∷ 2313 ∷ 2313 ∷ []) ++ replicate 20 2313 ++ replicate 4 1285)
    × (strip_words (strip_with one (0 ∷ []) (0 ∷ 1 ∷ []) (replicate 8 0xFF) font) ≡ replicate 32 1285 ++ replicate 32 2313)
unfolding finding glyph_of line_words glyph_bit glyph_colour glyph_word glyph_words digit_words
digit_cases = (refl, refl)

-- ---- refusals
-- a strip with heights and digits, by its ask
abbrev strip_at : Ask → List ℕ → List ℕ → Strip
strip_at a heights digits = strip_with a heights digits [] font

-- the number with room enough
abbrev number_at : Ask → List ℕ → List ℕ → ℕ
number_at a heights digits = (stripping (strip_at a heights digits) 2048 400).number

-- depth, colours, hours and column width, at their limits and past them
pub ask_cases : number_at (ask_with 1 8 0 0 3 255 255) (7 ∷ []) []
    ∷ number_at (ask_with 1 0 0 0 3 5 9) (7 ∷ []) []
    ∷ number_at (ask_with 1 3 0 0 3 5 9) (7 ∷ []) []
    ∷ number_at (ask_with 1 32 0 0 3 5 9) (7 ∷ []) []
    ∷ number_at (ask_with 1 1 0 0 3 5 9) (7 ∷ []) []
    ∷ number_at (ask_with 1 4 0 0 3 256 256) (7 ∷ []) []
    ∷ number_at (ask_with 1 8 0 0 3 256 9) (7 ∷ []) []
    ∷ number_at (ask_with 1 8 0 0 3 5 256) (7 ∷ []) []
    ∷ number_at (ask_with 1 16 0 0 3 65535 65535) (7 ∷ []) []
    ∷ number_at (ask_with 0 8 0 0 3 5 9) [] []
    ∷ number_at (ask_with 25 8 0 0 3 5 9) (replicate 25 0) []
    ∷ number_at (ask_with 24 8 0 0 3 5 9) (replicate 24 0) []
    ∷ number_at (ask_with 1 8 0 0 0 5 9) (7 ∷ []) []
    ∷ number_at (ask_with 1 8 0 0 17 5 9) (7 ∷ []) []
    ∷ number_at (ask_with 1 8 0 0 1 5 9) (7 ∷ []) []
    ∷ number_at (ask_with 1 8 0 0 16 5 9) (7 ∷ []) []
    ∷ []
    ≡ 0 ∷ 2 ∷ 2 ∷ 2 ∷ 11 ∷ 11 ∷ 12 ∷ 12 ∷ 0 ∷ 27 ∷ 27 ∷ 0 ∷ 27 ∷ 27 ∷ 0 ∷ 0 ∷ []
unfolding is_depth first_of command_bytes line_words column columns writes strip_commands list_bytes digit_words all_in_reach ask_rows strip_rows stripping
ask_cases = refl

-- a factory font of 79 bytes, digits drawn or not
pub font_cases : (stripping (strip_with one (7 ∷ []) [] [] (replicate 79 0)) 2048 400).number
    ∷ (stripping (strip_with one (7 ∷ []) [] [] (replicate 80 0)) 2048 400).number
    ∷ (stripping (strip_with one (7 ∷ []) (1 ∷ []) (replicate 80 0) (replicate 79 0)) 2048 400).number
    ∷ []
    ≡ 27 ∷ 0 ∷ 27 ∷ []
unfolding is_depth first_of command_bytes line_words finding glyph_of glyph_bit glyph_colour glyph_word glyph_words column columns writes strip_commands list_bytes digit_words all_in_reach ask_rows strip_rows stripping
font_cases = refl

-- x and y of what is written: the last column's x; a digit's y, none without a sample; a bar's y, none at height 0; the last digit's x
pub reach_cases : number_at (ask_with 2 8 65532 0 3 5 9) (0 ∷ 0 ∷ []) []
    ∷ number_at (ask_with 2 8 65533 0 3 5 9) (0 ∷ 0 ∷ []) []
    ∷ number_at (ask_with 1 8 65535 0 16 5 9) (0 ∷ []) []
    ∷ number_at (ask_with 1 8 0 65435 3 5 9) (0 ∷ []) (1 ∷ [])
    ∷ number_at (ask_with 1 8 0 65436 3 5 9) (0 ∷ []) (1 ∷ [])
    ∷ number_at (ask_with 1 8 0 65436 3 5 9) (0 ∷ []) []
    ∷ number_at (ask_with 1 8 0 65535 3 5 9) (100 ∷ []) []
    ∷ number_at (ask_with 1 8 0 65535 3 5 9) (99 ∷ []) []
    ∷ number_at (ask_with 1 8 0 65535 3 5 9) (0 ∷ []) []
    ∷ number_at (ask_with 1 8 65527 0 3 5 9) (0 ∷ []) (1 ∷ 2 ∷ [])
    ∷ number_at (ask_with 1 8 65528 0 3 5 9) (0 ∷ []) (1 ∷ 2 ∷ [])
    ∷ []
    ≡ 0 ∷ 27 ∷ 0 ∷ 0 ∷ 27 ∷ 0 ∷ 0 ∷ 27 ∷ 0 ∷ 0 ∷ 27 ∷ []
unfolding is_depth first_of command_bytes line_words finding glyph_of glyph_bit glyph_colour glyph_word glyph_words column columns writes strip_commands list_bytes digit_words all_in_reach ask_rows strip_rows stripping
reach_cases = refl

-- lengths, 17 for a byte or a word less, and of two refusals the earlier
pub room_cases : stripping (strip_at one (7 ∷ []) (1 ∷ [])) 96 32
    ∷ stripping (strip_at one (7 ∷ []) (1 ∷ [])) 95 32
    ∷ stripping (strip_at one (7 ∷ []) (1 ∷ [])) 96 31
    ∷ stripping (strip_at (ask_with 1 16 10 20 3 5 9) (7 ∷ []) (1 ∷ [])) 96 64
    ∷ stripping (strip_at (ask_with 1 16 10 20 3 5 9) (7 ∷ []) (1 ∷ [])) 96 63
    ∷ stripping (strip_at one (0 ∷ []) []) 32 0
    ∷ stripping (strip_at (ask_with 1 8 0 65535 3 5 9) (99 ∷ []) []) 0 0
    ∷ stripping (strip_at (ask_with 0 8 0 0 3 256 9) (7 ∷ []) []) 0 0
    ∷ stripping (strip_at (ask_with 0 8 0 0 3 5 9) (7 ∷ []) []) 0 0
    ∷ []
    ≡ record { number = 0; bytes = 96; words = 32 }
    ∷ record { number = 17; bytes = 0; words = 0 }
    ∷ record { number = 17; bytes = 0; words = 0 }
    ∷ record { number = 0; bytes = 96; words = 64 }
    ∷ record { number = 17; bytes = 0; words = 0 }
    ∷ record { number = 0; bytes = 32; words = 0 }
    ∷ record { number = 27; bytes = 0; words = 0 }
    ∷ record { number = 12; bytes = 0; words = 0 }
    ∷ record { number = 27; bytes = 0; words = 0 }
    ∷ []
unfolding is_depth first_of command_bytes line_words finding glyph_of glyph_bit glyph_colour glyph_word glyph_words column columns writes strip_commands list_bytes digit_words all_in_reach ask_rows strip_rows stripping
room_cases = refl

-- ---- buffers and answers
-- past the result they are kept, and whole where refused: three bytes more, two words more; a word too few
pub buffer_cases : (drop 64 (list_after (strip_at one (0 ∷ []) (0 ∷ [])) (replicate 64 1 ++ (7 ∷ 8 ∷ 9 ∷ [])) (replicate 32 1 ++ (7 ∷ 8 ∷ []))) ≡ 7 ∷ 8 ∷ 9 ∷ [])
    × (take 18 (list_after (strip_at one (0 ∷ []) (0 ∷ [])) (replicate 64 1 ++ (7 ∷ 8 ∷ 9 ∷ [])) (replicate 32 1))
    ≡ 0 ∷ 0 ∷ 0 ∷ 0 ∷ 10 ∷ 0 ∷ 20 ∷ 0 ∷ 3 ∷ 0 ∷ 100 ∷ 0 ∷ 0 ∷ 0 ∷ 0 ∷ 0 ∷ 9 ∷ 0 ∷ [])
    × (drop 28 (words_after (strip_at one (0 ∷ []) (0 ∷ [])) (replicate 64 1) (replicate 32 1 ++ (7 ∷ 8 ∷ []))) ≡ 1285 ∷ 1285 ∷ 1285 ∷ 1285 ∷ 7 ∷ 8 ∷ [])
    × (list_after (strip_at one (0 ∷ []) (0 ∷ [])) (replicate 64 1) (replicate 31 1) ≡ replicate 64 1)
    × (words_after (strip_at one (0 ∷ []) (0 ∷ [])) (replicate 63 1) (replicate 32 1) ≡ replicate 32 1)
unfolding is_depth first_of command_bytes line_words finding glyph_of glyph_bit glyph_colour glyph_word glyph_words column columns writes strip_commands list_bytes digit_words all_in_reach ask_rows strip_rows stripping list_after words_after
buffer_cases = (refl, refl, refl, refl, refl)

pub answer_cases : (stripping_of (Ok (record { bytes = 96; words = 32 })) ≡ record { number = 0; bytes = 96; words = 32 })
    × (stripping_of (Err Room) ≡ record { number = 17; bytes = 0; words = 0 })
    × (answer_of (record { number = 0; bytes = 96; words = 32 }) ≡ Ok (record { bytes = 96; words = 32 }))
    × (answer_of (record { number = 27; bytes = 0; words = 0 }) ≡ Err WearRange)
unfolding stripping_by answer_of refusals.answered refusals.number refusals.refusal
answer_cases = (refl, refl, refl, refl)
