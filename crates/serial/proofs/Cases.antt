-- Blocks and ends, computed on a memory of eight bytes: what each call gives, two refusals at once, and states that no stream leads to.
use Prim.Native.Nat.{ℕ}
use mathlib.Core.Path.{◌≡◌, refl}
use mathlib.Core.Bool.{true, false}
use mathlib.Core.List.{List, [], ◌∷◌, ◌++◌}
use lib.ListN.{take, drop, replicate}
use Rattle.record.specs.Checks.{first_of, first_place, rows_at}
use Rattle.record.specs.Record.{record_with, record_bytes, stream_bytes, record_at, records_from, records_of}
use Rattle.record.specs.declared.Record.{Record}
use Rattle.pixel.specs.Pixel.{get_pixel, put_pixel}
use Rattle.pixel.specs.Raster.{bitwise}
use Rattle.blit.specs.Blit.{pixels, chip_line, chip_lines, chip_blit}
use Rattle.blit.specs.Job.{blit_of}
use Rattle.blit.specs.Words.{word_pixel, chip_word}
use Rattle.screen.specs.declared.ScreenValues.{ScreenValues}
use Rattle.chip.specs.Register.{listed, fits, screen_after, blit_after}
use Rattle.chip.specs.Start.{source_fits, startable, span, within, mix_by, from_by, job_of, write_of, started}
use Rattle.chip.specs.Admit.{admit_rows, refusal, due_after, due_of, chip_after, effect}
use Rattle.chip.specs.Play.{new_chip, refused_by}
use Rattle.chip.specs.Words.{words_ahead, due_in_line}
use Rattle.chip.specs.declared.Registers.{Registers}
use Rattle.serial.specs.State.{chip_of, state_of, player_of, new_player}
use Rattle.serial.specs.Serial.{record_taken, byte_taken, bytes_taken, block_rows, kept_by, fed_with, feeding, end_rows, keeping, ended_player, end_answer, answer_of, fed_of}
use Rattle.serial.specs.Taking.{words_alone}
use Rattle.serial.specs.Cutting.{joined, fed_all, before_refused}
use Rattle.serial.specs.declared.Player.{Player}

-- eight bytes
abbrev line8 : List ℕ
line8 = 1 ∷ 2 ∷ 3 ∷ 4 ∷ 5 ∷ 6 ∷ 7 ∷ 8 ∷ []

-- a fill of three pixels of one byte with colour 9 from address a on: five records
abbrev three : ℕ → List Record
three a = record_with 0x8008 0xC ∷ record_with 0x8010 a ∷ record_with 0x8018 2 ∷ record_with 0x8024 9 ∷ record_with 0x8000 1 ∷ []

-- a write of one line of three pixels from address 0 on, code Ch, and its first word: the second is due
abbrev writes : List Record
writes = record_with 0x8008 0xC0000 ∷ record_with 0x8018 2 ∷ record_with 0x8000 1 ∷ record_with 0x10000 0x0706 ∷ []

-- bytes cut after i
abbrev cut_at : ℕ → List ℕ → List (List ℕ)
cut_at i s = take i s ∷ drop i s ∷ []

-- the registers of the fill
abbrev filled : ℕ → Registers
filled a = record { control = 1; command = 0xC; source = 0; destination = a; offset = 0; width = 2; height = 0; background = 0; foreground = 9 }

-- a player between two records, with these blit registers and this count
abbrev idle : Registers → ℕ → Player
idle b n =
    record {
      values = replicate 6 0;
      blit = b;
      due = 0;
      line = 0;
      word = 0;
      half = replicate 7 0;
      held = 0;
      count = n;
      kept = 0;
      number = 0;
      place = 0;
    }

abbrev refusing : Registers → ℕ → ℕ → Player
refusing b n k = keeping (idle b n) k n

-- all registers 0
abbrev zeros : Registers
zeros = record { control = 0; command = 0; source = 0; destination = 0; offset = 0; width = 0; height = 0; background = 0; foreground = 0 }

-- ---- a new player, and a block that is taken

pub new_is : new_player ≡ idle zeros 0
unfolding new_player player_of new_chip
new_is = refl

-- it gives 0 and all else 0, and so it does one byte at a time; a byte short of the start nothing is drawn
pub taken : (feeding 8 new_player (stream_bytes (three 5)) line8
    ≡ record { answer = refused_by 0 0; player = idle (filled 5) 5; memory = 1 ∷ 2 ∷ 3 ∷ 4 ∷ 5 ∷ 9 ∷ 9 ∷ 9 ∷ [] })
    × (fed_all 8 new_player line8 (cut_at 3 (stream_bytes (three 5))) ≡ record { player = idle (filled 5) 5; memory = 1 ∷ 2 ∷ 3 ∷ 4 ∷ 5 ∷ 9 ∷ 9 ∷ 9 ∷ [] })
    × (fed_all 8 new_player line8 (cut_at 39 (stream_bytes (three 5))) ≡ record { player = idle (filled 5) 5; memory = 1 ∷ 2 ∷ 3 ∷ 4 ∷ 5 ∷ 9 ∷ 9 ∷ 9 ∷ [] })
    × ((feeding 8 new_player (take 39 (stream_bytes (three 5))) line8).memory ≡ line8)
    × ((feeding 8 new_player (0x14 ∷ 0x80 ∷ 0 ∷ []) line8).player.half ≡ 0x14 ∷ 0x80 ∷ 0 ∷ 0 ∷ 0 ∷ 0 ∷ 0 ∷ [])
    × ((feeding 8 new_player (0x14 ∷ 0x80 ∷ 0 ∷ []) line8).player.held ≡ 3)
    × (feeding 8 new_player [] line8 ≡ record { answer = refused_by 0 0; player = new_player; memory = line8 })
unfolding first_of first_place rows_at record_bytes stream_bytes record_at get_pixel put_pixel bitwise pixels chip_line chip_lines chip_blit blit_of word_pixel chip_word listed fits screen_after blit_after source_fits startable span within mix_by from_by job_of write_of started admit_rows refusal due_after due_of chip_after effect new_chip chip_of state_of player_of new_player record_taken byte_taken bytes_taken block_rows kept_by fed_with feeding end_rows keeping ended_player fed_all
taken = (refl, refl, refl, refl, refl, refl, refl)

-- ---- a transparent move of six bytes by two to the right that keeps where the byte is 2, cut within the record of its key; and a pattern fill,
-- whose pattern does not lie in eight bytes, behind a fill
abbrev moves : List Record
moves = record_with 0x8008 5 ∷ record_with 0x8010 2 ∷ record_with 0x8018 5 ∷ record_with 0x8020 2 ∷ record_with 0x8000 1 ∷ []

abbrev patterned : List Record
patterned = three 5 ++ (record_with 0x8008 6 ∷ record_with 0x8000 1 ∷ [])

pub transparent_fed : ((fed_all 8 new_player line8 (cut_at 30 (stream_bytes moves))).memory ≡ 1 ∷ 2 ∷ 1 ∷ 4 ∷ 1 ∷ 4 ∷ 1 ∷ 4 ∷ [])
    × ((feeding 8 new_player (stream_bytes patterned) line8).answer ≡ refused_by 22 6)
    × ((feeding 8 new_player (stream_bytes patterned) line8).memory ≡ 1 ∷ 2 ∷ 3 ∷ 4 ∷ 5 ∷ 9 ∷ 9 ∷ 9 ∷ [])
unfolding first_of first_place rows_at record_bytes stream_bytes record_at get_pixel put_pixel bitwise pixels chip_line chip_lines chip_blit blit_of listed fits screen_after blit_after source_fits startable span within mix_by from_by job_of started admit_rows refusal due_after due_of chip_after effect new_chip chip_of state_of player_of new_player record_taken byte_taken bytes_taken block_rows kept_by fed_with feeding fed_all
transparent_fed = (refl, refl, refl)

-- ---- a refused record: its number and the count as place; the records before it have drawn, it writes no register, and the bytes behind it are
-- dropped

-- the fill, a number that is no register, and another fill
abbrev bad : List ℕ
bad = stream_bytes (three 5) ++ stream_bytes (record_with 0x60 0 ∷ record_with 0x8010 0 ∷ record_with 0x8000 1 ∷ [])

pub refused : (feeding 8 new_player bad line8
    ≡ record { answer = refused_by 20 5; player = refusing (filled 5) 5 20; memory = 1 ∷ 2 ∷ 3 ∷ 4 ∷ 5 ∷ 9 ∷ 9 ∷ 9 ∷ [] })
    × (fed_all 8 new_player line8 (cut_at 44 bad) ≡ record { player = refusing (filled 5) 5 20; memory = 1 ∷ 2 ∷ 3 ∷ 4 ∷ 5 ∷ 9 ∷ 9 ∷ 9 ∷ [] })
    × (fed_all 8 new_player line8 (cut_at 48 bad) ≡ record { player = refusing (filled 5) 5 20; memory = 1 ∷ 2 ∷ 3 ∷ 4 ∷ 5 ∷ 9 ∷ 9 ∷ 9 ∷ [] })
    × ((feeding 8 new_player (stream_bytes (record_with 0x8018 2 ∷ record_with 0x8018 0x400 ∷ [])) line8).player.blit.width ≡ 2)
    × ((feeding 8 new_player (stream_bytes (record_with 0x8018 2 ∷ record_with 0x8018 0x400 ∷ [])) line8).answer ≡ refused_by 21 1)
    × (end_answer (refusing (filled 5) 5 20) ≡ refused_by 20 5)
    × (feeding 8 (refusing (filled 5) 5 20) (stream_bytes (three 0)) line8
    ≡ record { answer = refused_by 20 5; player = refusing (filled 5) 5 20; memory = line8 })
unfolding first_of first_place rows_at record_bytes stream_bytes record_at get_pixel put_pixel bitwise pixels chip_line chip_lines chip_blit blit_of word_pixel chip_word listed fits screen_after blit_after source_fits startable span within mix_by from_by job_of write_of started admit_rows refusal due_after due_of chip_after effect new_chip chip_of state_of player_of new_player record_taken byte_taken bytes_taken block_rows kept_by fed_with feeding end_rows keeping ended_player fed_all
refused = (refl, refl, refl, refl, refl, refl, refl)

-- ---- 18, 32, and what is kept, two at once

-- a player that keeps the end's answer
abbrev done : Player
done =
    record {
      values = 1 ∷ 2 ∷ 3 ∷ 4 ∷ 5 ∷ 6 ∷ [];
      blit = zeros;
      due = 0;
      line = 0;
      word = 0;
      half = replicate 7 0;
      held = 0;
      count = 3;
      kept = 1;
      number = 0;
      place = 0;
    }

abbrev six_of : ScreenValues
six_of = record { main = record { start = 1; offset = 2 }; window = record { start = 3; offset = 4 }; x = 5; y = 6 }

pub sizes : (feeding 8 new_player (replicate 65 0) (1 ∷ []) ≡ record { answer = refused_by 18 0; player = new_player; memory = 1 ∷ [] })
    × (feeding 8 new_player (replicate 65 0) line8 ≡ record { answer = refused_by 32 0; player = new_player; memory = line8 })
    × ((feeding 8 new_player (replicate 64 0) line8).answer ≡ refused_by 20 0)
    × (feeding 8 done (replicate 65 0) (1 ∷ []) ≡ record { answer = record { number = 0; place = 0; values = six_of }; player = done; memory = 1 ∷ [] })
    × ((feeding 8 (keeping new_player 23 7) (replicate 65 0) (1 ∷ [])).answer ≡ refused_by 23 7)
    × ((feeding 8 (keeping done 0 5) [] line8).answer ≡ record { number = 0; place = 0; values = six_of })
unfolding first_of first_place rows_at record_bytes stream_bytes record_at get_pixel put_pixel bitwise pixels chip_line chip_lines chip_blit blit_of word_pixel chip_word listed fits screen_after blit_after source_fits startable span within mix_by from_by job_of write_of started admit_rows refusal due_after due_of chip_after effect new_chip chip_of state_of player_of new_player record_taken byte_taken bytes_taken block_rows kept_by fed_with feeding end_rows keeping ended_player
sizes = (refl, refl, refl, refl, refl, refl)

-- ---- the end

-- the write's player waits for its second word; three bytes more are half read
abbrev waiting : Player
waiting = (feeding 8 new_player (stream_bytes writes) line8).player

abbrev halfway : Player
halfway = (feeding 8 waiting (0 ∷ 0 ∷ 1 ∷ []) line8).player

pub ends : ((feeding 8 new_player (stream_bytes writes) line8).memory ≡ 6 ∷ 7 ∷ 3 ∷ 4 ∷ 5 ∷ 6 ∷ 7 ∷ 8 ∷ [])
    × (waiting.due ≡ 1)
    × (waiting.line ≡ 0)
    × (waiting.word ≡ 1)
    × (end_answer waiting ≡ refused_by 23 4)
    × (end_answer halfway ≡ refused_by 19 0)
    × ((feeding 8 halfway (0 ∷ 5 ∷ 0 ∷ 0 ∷ 0 ∷ []) line8).memory ≡ 1 ∷ 2 ∷ 5 ∷ 4 ∷ 5 ∷ 6 ∷ 7 ∷ 8 ∷ [])
    × ((end_answer (feeding 8 halfway (0 ∷ 5 ∷ 0 ∷ 0 ∷ 0 ∷ []) line8).player).number ≡ 0)
    × (ended_player halfway ≡ keeping halfway 19 0)
    × (ended_player waiting ≡ keeping waiting 23 4)
    × ((feeding 8 (ended_player waiting) (0 ∷ 0 ∷ 1 ∷ []) line8).answer ≡ refused_by 23 4)
    × (end_answer (ended_player waiting) ≡ refused_by 23 4)
    × (end_answer done ≡ record { number = 0; place = 0; values = six_of })
    × (end_answer (idle zeros 7) ≡ refused_by 0 0)
unfolding first_of first_place rows_at record_bytes stream_bytes record_at get_pixel put_pixel bitwise pixels chip_line chip_lines chip_blit blit_of word_pixel chip_word listed fits screen_after blit_after source_fits startable span within mix_by from_by job_of write_of started admit_rows refusal due_after due_of chip_after effect new_chip chip_of state_of player_of new_player record_taken byte_taken bytes_taken block_rows kept_by fed_with feeding end_rows keeping ended_player
ends = (refl, refl, refl, refl, refl, refl, refl, refl, refl, refl, refl, refl, refl, refl)

-- ---- states that no stream leads to

-- a length above 7 means 7: the next byte makes the record whole
abbrev full : Player
full =
    record {
      values = replicate 6 0;
      blit = zeros;
      due = 0;
      line = 0;
      word = 0;
      half = 0x40 ∷ 0 ∷ 0 ∷ 0 ∷ 5 ∷ 0 ∷ 0 ∷ [];
      held = 200;
      count = 18446744073709551614;
      kept = 0;
      number = 0;
      place = 0;
    }

-- any number but 0 says that data is due
abbrev owing : ℕ → Player
owing n =
    record {
      values = replicate 6 0;
      blit = zeros;
      due = n;
      line = 0;
      word = 0;
      half = replicate 7 1;
      held = 0;
      count = 18446744073709551615;
      kept = 0;
      number = 0;
      place = 0;
    }

pub strange : ((feeding 8 full (0 ∷ []) line8).player.values ≡ 5 ∷ 0 ∷ 0 ∷ 0 ∷ 0 ∷ 0 ∷ [])
    × ((feeding 8 full (0 ∷ []) line8).player.held ≡ 0)
    × ((feeding 8 full (0 ∷ []) line8).player.count ≡ 18446744073709551615)
    × (end_answer full ≡ refused_by 19 0)
    × (ended_player full
    ≡ record {
      values = replicate 6 0;
      blit = zeros;
      due = 0;
      line = 0;
      word = 0;
      half = 0x40 ∷ 0 ∷ 0 ∷ 0 ∷ 5 ∷ 0 ∷ 0 ∷ [];
      held = 200;
      count = 18446744073709551614;
      kept = 1;
      number = 19;
      place = 0;
    })
    × ((feeding 8 (owing 7) [] line8).player.due ≡ 1)
    × ((feeding 8 (owing 7) [] line8).player.half ≡ replicate 7 0)
    × (end_answer (owing 7) ≡ refused_by 23 18446744073709551615)
    × ((feeding 8 (owing 1) (stream_bytes (record_with 0x10000 0 ∷ [])) line8).player ≡ idle zeros 18446744073709551615)
    × ((feeding 8 (owing 0) (stream_bytes (record_with 0x10000 0 ∷ [])) line8).answer ≡ refused_by 23 18446744073709551615)
unfolding first_of first_place rows_at record_bytes stream_bytes record_at get_pixel put_pixel bitwise pixels chip_line chip_lines chip_blit blit_of word_pixel chip_word listed fits screen_after blit_after source_fits startable span within mix_by from_by job_of write_of started admit_rows refusal due_after due_of chip_after effect new_chip chip_of state_of player_of new_player record_taken byte_taken bytes_taken block_rows kept_by fed_with feeding end_rows keeping ended_player
strange = (refl, refl, refl, refl, refl, refl, refl, refl, refl, refl)

-- ---- the statement's own words

pub words : (joined ((1 ∷ 2 ∷ []) ∷ [] ∷ (3 ∷ []) ∷ []) ≡ 1 ∷ 2 ∷ 3 ∷ [])
    × (before_refused 8 new_chip (record_with 0x44 5 ∷ record_with 0x60 0 ∷ record_with 0x44 6 ∷ []) ≡ record_with 0x44 5 ∷ [])
    × (answer_of (record { number = 7; place = 8; values = six_of }) ≡ record { number = 7; place = 8; values = 1 ∷ 2 ∷ 3 ∷ 4 ∷ 5 ∷ 6 ∷ [] })
    × (fed_of done (refused_by 7 8) ≡ record { player = done; answer = record { number = 7; place = 8; values = replicate 6 0 } })
unfolding first_of listed fits screen_after blit_after admit_rows refusal due_after due_of chip_after new_chip joined before_refused answer_of fed_of
words = (refl, refl, refl, refl)

-- ---- words alone

-- a write of two lines of five pixels of one byte, three words to a line: word w of line 0 is due, held bytes are half read
abbrev writing : ℕ → ℕ → ℕ → Player
writing due w held =
    record {
      values = replicate 6 0;
      blit = record { control = 1; command = 0xC0000; source = 0; destination = 0; offset = 4; width = 4; height = 1; background = 0; foreground = 0 };
      due = due;
      line = 0;
      word = w;
      half = replicate 7 0;
      held = held;
      count = 5;
      kept = 0;
      number = 0;
      place = 0;
    }

-- so many words, the last of them v
abbrev last : ℕ → List ℕ
last v = stream_bytes (record_with 0x10000 v ∷ [])

abbrev two : ℕ → List ℕ
two v = stream_bytes (record_with 0x10000 0xFFFF ∷ []) ++ last v

abbrev whole : ℕ → List ℕ
whole v = stream_bytes (record_with 0x10000 7 ∷ []) ++ two v

-- a block of words of the line, all of it or a part; nothing due; half read; a word past the line, from its start and from its second
-- word on; a value past its field, in the last word and in the first; a register; seven bytes, nine, none
pub alone : (words_alone (writing 1 0 0) (whole 9) ≡ true)
    × (words_alone (writing 7 1 0) (two 9) ≡ true)
    × (words_alone (writing 1 0 0) (last 9) ≡ true)
    × (words_alone (writing 1 9 0) (last 9) ≡ true)
    × (words_alone (writing 0 0 0) (two 9) ≡ false)
    × (words_alone (writing 1 0 1) (two 9) ≡ false)
    × (words_alone (writing 1 0 200) (two 9) ≡ false)
    × (words_alone (writing 1 0 0) (last 8 ++ whole 9) ≡ false)
    × (words_alone (writing 1 1 0) (whole 9) ≡ false)
    × (words_alone (writing 1 0 0) (two 0x10000) ≡ false)
    × (words_alone (writing 1 0 0) (last 0x10000 ++ last 9) ≡ false)
    × (words_alone (writing 1 0 0) (two 9 ++ stream_bytes (record_with 0x44 5 ∷ [])) ≡ false)
    × (words_alone (writing 1 0 0) (take 7 (last 9)) ≡ false)
    × (words_alone (writing 1 0 0) (last 9 ++ (0 ∷ [])) ≡ false)
    × (words_alone (writing 1 0 0) [] ≡ false)
unfolding record_bytes stream_bytes record_at records_from records_of fits words_ahead due_in_line chip_of words_alone
alone = (refl, refl, refl, refl, refl, refl, refl, refl, refl, refl, refl, refl, refl, refl, refl)
