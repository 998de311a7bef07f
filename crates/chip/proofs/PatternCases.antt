-- Pattern fills and transparent moves, played over small memories.
use Prim.Native.Nat.{ℕ, ◌+◌}
use mathlib.Core.Path.{◌≡◌, refl}
use mathlib.Core.Bool.{false}
use mathlib.Core.List.{List, [], ◌∷◌, ◌++◌}
use lib.ListN.{replicate}
use Rattle.record.specs.Checks.{first_of}
use Rattle.record.specs.Lists.{tabulate}
use Rattle.record.specs.Record.{record_with, record_bytes, stream_bytes, record_at, records_from, records_of}
use Rattle.record.specs.declared.Record.{Record}
use Rattle.pixel.specs.Pixel.{get_pixel, put_pixel}
use Rattle.pixel.specs.Raster.{bitwise}
use Rattle.blit.specs.Blit.{pixels, chip_line, chip_lines, chip_blit}
use Rattle.blit.specs.Job.{pattern_pixel, blit_of}
use Rattle.blit.specs.declared.Mix.TheVariants.{Raster, Key}
use Rattle.blit.specs.declared.From.TheVariants.{Memory, Pattern}
use Rattle.chip.specs.Register.{listed, fits, screen_after, blit_after}
use Rattle.chip.specs.Start.{source_fits, startable, span, within, mix_by, from_by, job_of, started}
use Rattle.chip.specs.Admit.{admit_rows, refusal, due_after, due_of, chip_after, effect}
use Rattle.chip.specs.Play.{new_chip, run, applied, ending, playing, played}
use Rattle.chip.specs.declared.Registers.{Registers}

-- a blit's records: operation and raster code, source, destination, width and height less one, key, start; lines eight bytes apart
abbrev blit : ℕ → ℕ → ℕ → ℕ → ℕ → ℕ → ℕ → List Record
blit command source destination width height key control =
    record_with 0x8008 command ∷ record_with 0x800C source ∷ record_with 0x8010 destination ∷ record_with 0x8014 4 ∷ record_with 0x8018 width ∷ record_with 0x801C height ∷ record_with 0x8020 key ∷ record_with 0x8000 control ∷ []

-- ---- patterns at depth 8: 64 bytes of 80h, and a pattern at 64 with the bytes 0, 1 .. 63
abbrev pattern_8 : List ℕ
pattern_8 = tabulate 64 (λ k. k)

abbrev memory_8 : List ℕ
memory_8 = replicate 64 0x80 ++ pattern_8

-- two lines of three pixels from address 1, of which the first is pixel 6 of the pattern's last line: columns 6, 7, 0 of lines 7 and 0. Under
-- operation 6 and exclusive or:
pub pattern_played_8 : ((playing 128 (stream_bytes (blit 0x60006 126 1 2 1 0 1)) memory_8).number ≡ 0)
    × (played 128 (stream_bytes (blit 0x60006 126 1 2 1 0 1)) memory_8
    ≡ 0x80 ∷ 0xBE ∷ 0xBF ∷ 0xB8 ∷ 0x80 ∷ 0x80 ∷ 0x80 ∷ 0x80
    ∷ 0x80 ∷ 0x86 ∷ 0x87 ∷ 0x80 ∷ 0x80 ∷ 0x80 ∷ 0x80 ∷ 0x80
    ∷ (replicate 48 0x80 ++ pattern_8))
unfolding first_of record_bytes stream_bytes record_at records_from records_of get_pixel put_pixel bitwise pixels chip_line chip_lines chip_blit pattern_pixel blit_of listed fits screen_after blit_after source_fits startable span within mix_by from_by job_of started admit_rows refusal due_after due_of chip_after effect new_chip run applied ending playing played
pattern_played_8 = (refl, refl)

-- under operation 7, with a raster code that is not obeyed and a key whose high byte is not compared: the pixel of 3Fh is kept
pub keyed_played_8 : ((playing 128 (stream_bytes (blit 0xA0007 126 1 2 1 0x553F 1)) memory_8).number ≡ 0)
    × (played 128 (stream_bytes (blit 0xA0007 126 1 2 1 0x553F 1)) memory_8
    ≡ 0x80 ∷ 62 ∷ 0x80 ∷ 56 ∷ 0x80 ∷ 0x80 ∷ 0x80 ∷ 0x80
    ∷ 0x80 ∷ 6 ∷ 7 ∷ 0 ∷ 0x80 ∷ 0x80 ∷ 0x80 ∷ 0x80
    ∷ (replicate 48 0x80 ++ pattern_8))
unfolding first_of record_bytes stream_bytes record_at records_from records_of get_pixel put_pixel bitwise pixels chip_line chip_lines chip_blit pattern_pixel blit_of listed fits screen_after blit_after source_fits startable span within mix_by from_by job_of started admit_rows refusal due_after due_of chip_after effect new_chip run applied ending playing played
keyed_played_8 = (refl, refl)

-- ---- patterns at depth 16: 128 bytes of 80h, and a pattern at 128 with the bytes 0, 1 .. 127
abbrev pattern_16 : List ℕ
pattern_16 = tabulate 128 (λ k. k)

abbrev memory_16 : List ℕ
memory_16 = replicate 128 0x80 ++ pattern_16

-- the same two lines of three pixels, from address 2
pub pattern_played_16 : ((playing 256 (stream_bytes (blit 0x60006 252 2 2 1 0 0x40001)) memory_16).number ≡ 0)
    × (played 256 (stream_bytes (blit 0x60006 252 2 2 1 0 0x40001)) memory_16
    ≡ 0x80 ∷ 0x80 ∷ 0xFC ∷ 0xFD ∷ 0xFE ∷ 0xFF ∷ 0xF0 ∷ 0xF1
    ∷ 0x80 ∷ 0x80 ∷ 0x8C ∷ 0x8D ∷ 0x8E ∷ 0x8F ∷ 0x80 ∷ 0x81
    ∷ (replicate 112 0x80 ++ pattern_16))
unfolding first_of record_bytes stream_bytes record_at records_from records_of get_pixel put_pixel bitwise pixels chip_line chip_lines chip_blit pattern_pixel blit_of listed fits screen_after blit_after source_fits startable span within mix_by from_by job_of started admit_rows refusal due_after due_of chip_after effect new_chip run applied ending playing played
pattern_played_16 = (refl, refl)

-- the key is compared whole: 7F7Eh is kept, and no pixel is where the high byte is another
pub keyed_played_16 : ((playing 256 (stream_bytes (blit 0xA0007 252 2 2 1 0x7F7E 0x40001)) memory_16).number ≡ 0)
    × (played 256 (stream_bytes (blit 0xA0007 252 2 2 1 0x7F7E 0x40001)) memory_16
    ≡ 0x80 ∷ 0x80 ∷ 124 ∷ 125 ∷ 0x80 ∷ 0x80 ∷ 112 ∷ 113
    ∷ 0x80 ∷ 0x80 ∷ 12 ∷ 13 ∷ 14 ∷ 15 ∷ 0 ∷ 1
    ∷ (replicate 112 0x80 ++ pattern_16))
    × (played 256 (stream_bytes (blit 0xA0007 252 2 1 0 0x7E 0x40001)) memory_16
    ≡ 0x80 ∷ 0x80 ∷ 124 ∷ 125 ∷ 126 ∷ 127 ∷ 0x80 ∷ 0x80
    ∷ (replicate 120 0x80 ++ pattern_16))
unfolding first_of record_bytes stream_bytes record_at records_from records_of get_pixel put_pixel bitwise pixels chip_line chip_lines chip_blit pattern_pixel blit_of listed fits screen_after blit_after source_fits startable span within mix_by from_by job_of started admit_rows refusal due_after due_of chip_after effect new_chip run applied ending playing played
keyed_played_16 = (refl, refl, refl)

-- ---- a pattern that lies in the destination is read whole before the first pixel: two by two pixels from address 0, the first from column 7 of
-- line 7. The last takes the pattern's first byte, which is overwritten by then.
pub pattern_read_first : played 64 (stream_bytes (blit 0xC0006 63 0 1 1 0 1)) pattern_8
    ≡ 63 ∷ 56 ∷ 2 ∷ 3 ∷ 4 ∷ 5 ∷ 6 ∷ 7 ∷ 7 ∷ 0 ∷ tabulate 54 (λ k. 10 + k)
unfolding first_of record_bytes stream_bytes record_at records_from records_of get_pixel put_pixel bitwise pixels chip_line chip_lines chip_blit pattern_pixel blit_of listed fits screen_after blit_after source_fits startable span within mix_by from_by job_of started admit_rows refusal due_after due_of chip_after effect new_chip run applied ending playing played
pattern_read_first = refl

-- ---- transparent moves: the destination lies above its overlapping source, and the move goes up, so that what it stored is read again

abbrev line8 : List ℕ
line8 = 1 ∷ 2 ∷ 3 ∷ 4 ∷ 5 ∷ 6 ∷ 7 ∷ 8 ∷ []

-- six bytes by two to the right; the byte 2 is the key and is not copied
pub transparent_played_8 : ((playing 8 (stream_bytes (blit 0x60005 0 2 5 0 0x5502 1)) line8).number ≡ 0)
    × (played 8 (stream_bytes (blit 0x60005 0 2 5 0 0x5502 1)) line8 ≡ 1 ∷ 2 ∷ 1 ∷ 4 ∷ 1 ∷ 4 ∷ 1 ∷ 4 ∷ [])
unfolding first_of record_bytes stream_bytes record_at records_from records_of get_pixel put_pixel bitwise pixels chip_line chip_lines chip_blit blit_of listed fits screen_after blit_after source_fits startable span within mix_by from_by job_of started admit_rows refusal due_after due_of chip_after effect new_chip run applied ending playing played
transparent_played_8 = (refl, refl)

-- three pixels by one to the right; the first is the key, or has its low byte only
pub transparent_played_16 : ((playing 8 (stream_bytes (blit 0x60005 0 2 2 0 0x0201 0x40001)) line8).number ≡ 0)
    × (played 8 (stream_bytes (blit 0x60005 0 2 2 0 0x0201 0x40001)) line8 ≡ 1 ∷ 2 ∷ 3 ∷ 4 ∷ 3 ∷ 4 ∷ 3 ∷ 4 ∷ [])
    × (played 8 (stream_bytes (blit 0x60005 0 2 2 0 1 0x40001)) line8 ≡ 1 ∷ 2 ∷ 1 ∷ 2 ∷ 1 ∷ 2 ∷ 1 ∷ 2 ∷ [])
unfolding first_of record_bytes stream_bytes record_at records_from records_of get_pixel put_pixel bitwise pixels chip_line chip_lines chip_blit blit_of listed fits screen_after blit_after source_fits startable span within mix_by from_by job_of started admit_rows refusal due_after due_of chip_after effect new_chip run applied ending playing played
transparent_played_16 = (refl, refl, refl)

-- ---- 22 counts pixels that are kept: of 64 bytes that are the key, none would change
abbrev blank : List ℕ
blank = replicate 64 0

pub kept_counted : (playing 64 (stream_bytes (blit 5 0 56 7 0 0 1)) blank).number
    ∷ (playing 64 (stream_bytes (blit 5 0 57 7 0 0 1)) blank).number
    ∷ (playing 64 (stream_bytes (blit 5 57 0 7 0 0 1)) blank).number
    ∷ (playing 64 (stream_bytes (blit 7 0 56 7 0 0 1)) blank).number
    ∷ (playing 64 (stream_bytes (blit 7 0 57 7 0 0 1)) blank).number
    ∷ []
    ≡ 0 ∷ 22 ∷ 22 ∷ 0 ∷ 22 ∷ []
unfolding first_of record_bytes stream_bytes record_at records_from records_of listed fits screen_after blit_after source_fits startable span within admit_rows refusal due_after due_of chip_after new_chip run ending playing
kept_counted = refl

-- ---- the registers of 002's examples 15, 16 and 17, in a memory of 262,144 bytes
abbrev example_15 : List Record
example_15 =
    record_with 0x800C 0x19C8 ∷ record_with 0x8010 0x3390 ∷ record_with 0x8018 8 ∷ record_with 0x801C 0x64 ∷ record_with 0x8008 5 ∷ record_with 0x8020 0x1F ∷ record_with 0x8014 0x140 ∷ record_with 0x8000 0x40001 ∷ []

abbrev example_16 : List Record
example_16 =
    record_with 0x8010 0x190A ∷ record_with 0x800C 0x3C023 ∷ record_with 0x8018 0x63 ∷ record_with 0x801C 0x95 ∷ record_with 0x8008 0xC0006 ∷ record_with 0x8014 0xA0 ∷ record_with 0x8000 1 ∷ []

-- 002 sets 800Ch to 3C0023h here, and calculates 3C023h
abbrev example_17 : List Record
example_17 =
    record_with 0x8010 0x190A ∷ record_with 0x800C 0x3C023 ∷ record_with 0x8018 0x63 ∷ record_with 0x801C 0x95 ∷ record_with 0x8008 7 ∷ record_with 0x8020 1 ∷ record_with 0x8014 0xA0 ∷ record_with 0x8000 1 ∷ []

abbrev after : List Record → Registers
after records = (run 262144 new_chip 0 records).chip.blit

pub examples : ((run 262144 new_chip 0 example_15).number ≡ 0)
    × (job_of (after example_15)
    ≡ record { down = false; bytes = 2; line = 640; width = 9; height = 101; mix = Key 0x1F; from = Memory 0x19C8; destination = 0x3390 })
    × ((run 262144 new_chip 0 example_16).number ≡ 0)
    × (job_of (after example_16)
    ≡ record { down = false; bytes = 1; line = 320; width = 100; height = 150; mix = Raster 0xC; from = Pattern 0x3C000 3 4; destination = 0x190A })
    × ((run 262144 new_chip 0 example_17).number ≡ 0)
    × (job_of (after example_17)
    ≡ record { down = false; bytes = 1; line = 320; width = 100; height = 150; mix = Key 1; from = Pattern 0x3C000 3 4; destination = 0x190A })
unfolding first_of listed fits screen_after blit_after source_fits startable span within mix_by from_by job_of admit_rows refusal due_after due_of chip_after new_chip run
examples = (refl, refl, refl, refl, refl, refl)
