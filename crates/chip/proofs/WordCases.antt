-- Data words that are taken at once, in numbers worked out by hand.
use Prim.Native.Nat.{ℕ}
use mathlib.Core.Path.{◌≡◌, refl}
use mathlib.Core.Bool.{true, false, false≢true}
use mathlib.Core.List.{List, [], ◌∷◌, ◌++◌, map}
use native.Mathlib.Omega.{arith}
use Rattle.record.specs.Checks.{first_of}
use Rattle.record.specs.Record.{record_with}
use Rattle.record.specs.declared.Record.{Record}
use Rattle.pixel.specs.Pixel.{get_pixel, put_pixel}
use Rattle.pixel.specs.Raster.{bitwise}
use Rattle.blit.specs.Blit.{pixels}
use Rattle.blit.specs.Words.{word_pixel, chip_word, chip_words}
use Rattle.chip.specs.Register.{listed, fits, screen_after, blit_after}
use Rattle.chip.specs.Start.{source_fits, startable, span, within, mix_by, write_of}
use Rattle.chip.specs.Admit.{admit_rows, refusal, no_data, due_after, due_of, chip_after, effect}
use Rattle.chip.specs.Play.{run, applied}
use Rattle.chip.specs.Words.{is_word, words_ahead, OnlyWords, values_of, line_words, due_in_line, due_in_all, due_after_words, chip_after_words, words_taken}
use Rattle.chip.specs.declared.Due.{Due}
use Rattle.chip.specs.declared.Registers.{Registers}
use Rattle.chip.specs.declared.Chip.{Chip}
use Rattle.chip.proofs.Runs.{reached}
use Rattle.chip.proofs.Dues.{due_at, none_left}
use Rattle.chip.proofs.Words.{admitting, admitting_no_other, applying}

-- ---- records

-- a data word, one above its field, a register write
abbrev word : ℕ → Record
word v = record_with 0x10000 v

abbrev above : Record
above = word 0x10000

abbrev register : Record
register = record_with 0x8024 5

pub words_known : map is_word (word 0 ∷ word 0xFFFF ∷ above ∷ word 0xFFFFFFFF ∷ register ∷ record_with 0x8000 0 ∷ record_with 0xFFFF 5 ∷ record_with 0x10001 5 ∷ record_with 0 5 ∷ [])
    ≡ true ∷ true ∷ false ∷ false ∷ false ∷ false ∷ false ∷ false ∷ false ∷ []
unfolding fits
words_known = refl

-- words are counted to the first record that is none
pub counts : words_ahead []
    ∷ words_ahead (word 7 ∷ [])
    ∷ words_ahead (word 7 ∷ word 8 ∷ word 9 ∷ [])
    ∷ words_ahead (word 7 ∷ word 8 ∷ above ∷ word 9 ∷ [])
    ∷ words_ahead (word 7 ∷ word 8 ∷ register ∷ word 9 ∷ [])
    ∷ words_ahead (above ∷ word 7 ∷ [])
    ∷ words_ahead (register ∷ word 7 ∷ [])
    ∷ []
    ≡ 0 ∷ 1 ∷ 3 ∷ 2 ∷ 2 ∷ 0 ∷ 0 ∷ []
unfolding fits words_ahead
counts = refl

pub only_words : OnlyWords []
    × OnlyWords (word 7 ∷ word 0xFFFF ∷ [])
    × (OnlyWords (above ∷ word 7 ∷ []) → ⊥)
    × (OnlyWords (word 7 ∷ above ∷ []) → ⊥)
    × (OnlyWords (word 7 ∷ word 8 ∷ register ∷ []) → ⊥)
unfolding fits OnlyWords
only_words = (tt, (refl, (refl, tt)), λ o. false≢true o.0, λ o. false≢true o.1.0, λ o. false≢true o.1.1.0)

pub values : values_of (word 7 ∷ word 0xFFFF ∷ word 9 ∷ []) ≡ 7 ∷ 0xFFFF ∷ 9 ∷ []
unfolding values_of
values = refl

-- ---- what is due

-- a write under raster code Ch to address 1, lines six bytes apart; depth by the control register, width and height less one
abbrev writing : ℕ → ℕ → ℕ → Registers
writing control width height =
    record { control = control; command = 0xC0000; source = 0; destination = 1; offset = 3; width = width; height = height; background = 0; foreground = 0 }

-- two lines of five pixels of one byte: three words each, and a spare byte
abbrev odd : Registers
odd = writing 1 4 1

-- three lines of two pixels of two bytes: two words each
abbrev wide : Registers
wide = writing 0x40001 1 2

-- "(width + 1) ÷ 2 words at depth 8 [..]; width words at 16"
pub across : line_words odd ∷ line_words (writing 1 3 1) ∷ line_words (writing 1 0 1) ∷ line_words wide ∷ line_words (writing 0x40001 4 1) ∷ line_words (writing 1 1023 0) ∷ line_words (writing 0x40001 1023 0) ∷ []
    ≡ 3 ∷ 2 ∷ 1 ∷ 2 ∷ 5 ∷ 512 ∷ 1024 ∷ []
across = refl

-- at a line's start, in it, at its last word, and past it; the line does not count
pub in_line : due_in_line odd (due_at 0 0) ∷ due_in_line odd (due_at 0 1) ∷ due_in_line odd (due_at 0 2) ∷ due_in_line odd (due_at 0 3) ∷ due_in_line odd (due_at 0 9)
    ∷ due_in_line odd (due_at 1 0) ∷ due_in_line odd (due_at 1 2) ∷ due_in_line odd (due_at 5 1)
    ∷ due_in_line wide (due_at 0 0) ∷ due_in_line wide (due_at 2 1) ∷ due_in_line wide (due_at 0 2)
    ∷ []
    ≡ 3 ∷ 2 ∷ 1 ∷ 1 ∷ 1
    ∷ 3 ∷ 1 ∷ 2
    ∷ 2 ∷ 1 ∷ 1
    ∷ []
unfolding due_in_line
in_line = refl

-- at the start, in line 0, at its last word and past it; on the last line, at its last word; past the last line
pub in_all : due_in_all odd (due_at 0 0) ∷ due_in_all odd (due_at 0 1) ∷ due_in_all odd (due_at 0 2) ∷ due_in_all odd (due_at 0 9)
    ∷ due_in_all odd (due_at 1 0) ∷ due_in_all odd (due_at 1 2)
    ∷ due_in_all odd (due_at 2 0) ∷ due_in_all odd (due_at 7 1) ∷ due_in_all odd (due_at 7 9)
    ∷ due_in_all wide (due_at 0 0) ∷ due_in_all wide (due_at 0 1) ∷ due_in_all wide (due_at 1 1) ∷ due_in_all wide (due_at 2 0) ∷ due_in_all wide (due_at 2 1)
    ∷ []
    ≡ 6 ∷ 5 ∷ 4 ∷ 4
    ∷ 3 ∷ 1
    ∷ 3 ∷ 2 ∷ 1
    ∷ 6 ∷ 5 ∷ 3 ∷ 2 ∷ 1
    ∷ []
unfolding due_in_line due_in_all
in_all = refl

-- from the first word on: none, within line 0, all of it, into line 1, up to the last word, all
pub after_start : map (λ n. due_after_words odd n (due_at 0 0)) (0 ∷ 1 ∷ 2 ∷ 3 ∷ 4 ∷ 5 ∷ 6 ∷ [])
    ≡ due_at 0 0 ∷ due_at 0 1 ∷ due_at 0 2 ∷ due_at 1 0 ∷ due_at 1 1 ∷ due_at 1 2 ∷ no_data ∷ []
unfolding due_after due_after_words
after_start = refl

-- from the middle of a line on
pub after_middle : map (λ n. due_after_words odd n (due_at 0 1)) (1 ∷ 2 ∷ 3 ∷ 4 ∷ 5 ∷ []) ≡ due_at 0 2 ∷ due_at 1 0 ∷ due_at 1 1 ∷ due_at 1 2 ∷ no_data ∷ []
unfolding due_after due_after_words
after_middle = refl

pub after_wide : map (λ n. due_after_words wide n (due_at 0 1)) (1 ∷ 2 ∷ 3 ∷ 4 ∷ 5 ∷ []) ≡ due_at 1 0 ∷ due_at 1 1 ∷ due_at 2 0 ∷ due_at 2 1 ∷ no_data ∷ []
unfolding due_after due_after_words
after_wide = refl

-- ---- the chip

-- a chip with these registers and this due
abbrev chip : Registers → Due → Chip
chip b d =
    record {
      screen = record { main = record { start = 11; offset = 12 }; window = record { start = 13; offset = 14 }; x = 15; y = 16 };
      blit = b;
      due = d;
    }

-- only what is due changes
pub after_chip : (chip_after_words (chip odd (due_at 0 1)) 0 ≡ chip odd (due_at 0 1))
    × (chip_after_words (chip odd (due_at 0 1)) 3 ≡ chip odd (due_at 1 1))
    × (chip_after_words (chip wide (due_at 0 0)) 6 ≡ chip wide no_data)
unfolding due_after due_after_words
after_chip = (refl, refl, refl)

abbrev eight : List Record
eight = word 1 ∷ word 2 ∷ word 3 ∷ word 4 ∷ word 5 ∷ word 6 ∷ word 7 ∷ word 8 ∷ []

-- none while none is due; of eight those that are due, over the lines; where fewer stand there, or another record, those before it
pub takes : words_taken (chip odd no_data) eight
    ∷ words_taken (chip odd (due_at 0 0)) eight ∷ words_taken (chip odd (due_at 0 2)) eight ∷ words_taken (chip odd (due_at 1 0)) eight ∷ words_taken (chip odd (due_at 1 2)) eight
    ∷ words_taken (chip wide (due_at 1 1)) eight
    ∷ words_taken (chip odd (due_at 0 0)) [] ∷ words_taken (chip odd (due_at 0 0)) (word 1 ∷ word 2 ∷ word 3 ∷ word 4 ∷ [])
    ∷ words_taken (chip odd (due_at 0 0)) (word 1 ∷ word 2 ∷ above ∷ word 4 ∷ []) ∷ words_taken (chip odd (due_at 0 0)) (word 1 ∷ register ∷ word 3 ∷ [])
    ∷ words_taken (chip odd (due_at 0 0)) (above ∷ word 2 ∷ []) ∷ words_taken (chip odd (due_at 1 2)) (word 1 ∷ register ∷ [])
    ∷ []
    ≡ 0
    ∷ 6 ∷ 4 ∷ 3 ∷ 1
    ∷ 3
    ∷ 0 ∷ 4
    ∷ 2 ∷ 1
    ∷ 0 ∷ 1
    ∷ []
unfolding fits words_ahead due_in_line due_in_all words_taken
takes = refl

-- ---- admitted and applied one by one, in a memory of twelve bytes

-- from record 20 on. Five words leave the last of line 1 due, six none; a seventh is early, and so is a register write before the sixth; a
-- fourth word above its field is refused.
pub admitted_cases : (run 12 (chip odd (due_at 0 0)) 20 (word 1 ∷ word 2 ∷ word 3 ∷ word 4 ∷ word 5 ∷ []) ≡ reached (chip odd (due_at 1 2)))
    × (run 12 (chip odd (due_at 0 0)) 20 (word 1 ∷ word 2 ∷ word 3 ∷ word 4 ∷ word 5 ∷ word 6 ∷ []) ≡ reached (chip odd no_data))
    × (run 12 (chip odd (due_at 0 0)) 20 eight ≡ record { number = 23; place = 26; chip = chip odd no_data })
    × (run 12 (chip odd (due_at 0 0)) 20 (word 1 ∷ word 2 ∷ word 3 ∷ word 4 ∷ word 5 ∷ register ∷ []) ≡ record { number = 23; place = 25; chip = chip odd (due_at 1 2) })
    × (run 12 (chip odd (due_at 0 0)) 20 (word 1 ∷ word 2 ∷ word 3 ∷ above ∷ word 5 ∷ []) ≡ record { number = 21; place = 23; chip = chip odd (due_at 1 0) })
unfolding first_of listed fits screen_after blit_after source_fits startable span within admit_rows refusal due_after due_of chip_after run
admitted_cases = (refl, refl, refl, refl, refl)

abbrev twelve : List ℕ
twelve = 1 ∷ 2 ∷ 3 ∷ 4 ∷ 5 ∷ 6 ∷ 7 ∷ 8 ∷ 9 ∷ 10 ∷ 11 ∷ 12 ∷ []

-- "low byte first, spare high byte ignored". Line 0 is at addresses 1 to 5, line 1 at 7 to 11. Three words from word 1 of line 0 on: bytes 3 and
-- 4, byte 5 alone, then bytes 7 and 8 of line 1.
abbrev first_two : List ℕ
first_two = 1 ∷ 2 ∷ 3 ∷ 0x21 ∷ 0x22 ∷ 0x23 ∷ 7 ∷ 8 ∷ 9 ∷ 10 ∷ 11 ∷ 12 ∷ []

abbrev all_three : List ℕ
all_three = 1 ∷ 2 ∷ 3 ∷ 0x21 ∷ 0x22 ∷ 0x23 ∷ 7 ∷ 0x25 ∷ 0x26 ∷ 10 ∷ 11 ∷ 12 ∷ []

-- as records; the two of line 0 at once, and the third after them
pub applied_cases : (applied (chip odd (due_at 0 1)) (word 0x2221 ∷ word 0x2423 ∷ word 0x2625 ∷ []) twelve ≡ all_three)
    × (chip_words (write_of odd (λ i j. 0)) 0 1 (values_of (word 0x2221 ∷ word 0x2423 ∷ [])) twelve ≡ first_two)
    × (applied (chip_after_words (chip odd (due_at 0 1)) 2) (word 0x2625 ∷ []) first_two ≡ all_three)
unfolding get_pixel put_pixel bitwise pixels word_pixel chip_word chip_words screen_after blit_after mix_by write_of due_after due_of chip_after effect applied values_of due_after_words
applied_cases = (refl, refl, refl)

-- at depth 16, from address 0: a word is a pixel, and the last word of line 0 is followed by line 1, six bytes on
abbrev wide_at_0 : Registers
wide_at_0 = record { control = 0x40001; command = 0xC0000; source = 0; destination = 0; offset = 3; width = 1; height = 2; background = 0; foreground = 0 }

pub applied_wide : applied (chip wide_at_0 (due_at 0 1)) (word 0x2221 ∷ word 0x2423 ∷ []) twelve ≡ 1 ∷ 2 ∷ 0x21 ∷ 0x22 ∷ 5 ∷ 6 ∷ 0x23 ∷ 0x24 ∷ 9 ∷ 10 ∷ 11 ∷ 12 ∷ []
unfolding get_pixel put_pixel bitwise pixels word_pixel chip_word screen_after blit_after mix_by write_of due_after due_of chip_after effect applied
applied_wide = refl

-- ---- the claims at their limits, whatever follows

-- all six words that are due, over both lines: admitted at once, with none left; and where nothing is refused, six records are words
abbrev six : List Record
six = word 1 ∷ word 2 ∷ word 3 ∷ word 4 ∷ word 5 ∷ word 6 ∷ []

pub admitting_six : (rest : List Record) → run 12 (chip odd (due_at 0 0)) 20 (six ++ rest) ≡ run 12 (chip odd no_data) 26 rest
unfolding fits OnlyWords due_in_line due_in_all due_after due_after_words
admitting_six rest = admitting 12 (chip odd (due_at 0 0)) 20 six rest refl (refl, (refl, (refl, (refl, (refl, (refl, tt)))))) (omega arith)

pub six_are_words : (a b c d e f : Record) (rest : List Record) → (run 12 (chip odd (due_at 0 0)) 20 (a ∷ b ∷ c ∷ d ∷ e ∷ f ∷ rest)).number ≡ 0
    → OnlyWords (a ∷ b ∷ c ∷ d ∷ e ∷ f ∷ [])
unfolding due_in_line due_in_all
six_are_words a b c d e f rest = admitting_no_other 12 (chip odd (due_at 0 0)) 20 (a ∷ b ∷ c ∷ d ∷ e ∷ f ∷ []) rest refl (omega arith)

-- a whole line of three words: bytes 1 to 5, and line 1 is due
pub applying_line : (rest : List Record) → applied (chip odd (due_at 0 0)) (word 0x2221 ∷ word 0x2423 ∷ word 0x2625 ∷ rest) twelve
    ≡ applied (chip odd (due_at 1 0)) rest (1 ∷ 0x21 ∷ 0x22 ∷ 0x23 ∷ 0x24 ∷ 0x25 ∷ 7 ∷ 8 ∷ 9 ∷ 10 ∷ 11 ∷ 12 ∷ [])
unfolding fits OnlyWords get_pixel put_pixel bitwise pixels word_pixel chip_word chip_words mix_by write_of due_in_line due_after due_after_words values_of
applying_line rest = applying (chip odd (due_at 0 0)) (word 0x2221 ∷ word 0x2423 ∷ word 0x2625 ∷ []) rest twelve (refl, (refl, (refl, tt))) (omega arith)

-- five are left from word 1 of line 0 on, and a word past the last line is one
pub none_left_after : (due_after_words odd 5 (due_at 0 1) ≡ no_data) × (due_after_words odd 1 (due_at 7 9) ≡ no_data)
unfolding due_in_line due_in_all
none_left_after = (none_left odd (due_at 0 1), none_left odd (due_at 7 9))
