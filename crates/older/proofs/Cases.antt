-- 001's examples and the S1D13706's limits, computed; and its point reader's.
use Prim.Native.Nat.{ℕ}
use mathlib.Core.Path.{◌≡◌, refl, ap, ◌∙◌}
use mathlib.Core.List.{List}
use mathlib.Core.Bool.{true}
use lib.ListN.{length}
use Rattle.record.specs.Bytes.{all_zero}
use Rattle.record.specs.Checks.{first_of}
use Rattle.pixel.specs.Depth.{is_depth}
use Rattle.screen.specs.Image.{image_end, start_of}
use Rattle.screen.specs.Screen.{fields_of, well_formed, panel_ok, view_width, view_height, whole_dwords, main_image, window_image, line_ok, image_ok, window_ok, window_whole, field_rows, screen_rows}
use Rattle.screen.specs.Values.{window_x, window_y, origin_of, values_of}
use Rattle.screen.specs.Fields.{values_fit}
use Rattle.screen.specs.Cases.{all_hold}
use Rattle.screen.specs.declared.ScreenValues.{ScreenValues}
use Rattle.view.specs.Walk.{walk, in_window_by, corner_p, corner_q, place_of}
use Rattle.reader.specs.Read.{Reading, read_rows, read_at, reading}
use Rattle.reader.specs.declared.Display.{Display}
use Rattle.reader.proofs.Answer.{number_is, reading_is}
use Rattle.compiler.specs.Stream.{records_with}
use Rattle.older.specs.Bytes.{older_memory, older_bytes, older_values}
use Rattle.older.specs.Compile.{older_records, lent_rows, older_rows, older_compiling}
use Rattle.older.specs.Cases.{example_cases, older_cases}

pub examples_hold : all_hold example_cases ≡ true
unfolding all_zero first_of is_depth image_end start_of fields_of well_formed panel_ok view_width view_height whole_dwords main_image window_image line_ok image_ok window_ok window_whole field_rows screen_rows window_x window_y origin_of values_of all_hold records_with older_bytes older_values older_records lent_rows older_rows older_compiling example_cases
examples_hold = refl

pub limits_hold : all_hold older_cases ≡ true
unfolding all_zero first_of is_depth image_end start_of fields_of well_formed panel_ok view_width view_height whole_dwords main_image window_image line_ok image_ok window_ok window_whole field_rows screen_rows window_x window_y origin_of values_of all_hold records_with older_bytes older_values older_records lent_rows older_rows older_compiling older_cases
limits_hold = refl

-- ---- the point reader
-- a panel of 8 by 1 at depth 8, whose image is from a dword on
abbrev panel : Display
panel = record { depth = 8; rotation = 0; flag = 0; width = 8; height = 1 }

abbrev from : ℕ → ScreenValues
from start = record { main = record { start = start; offset = 2 }; window = record { start = 0; offset = 0 }; x = 0; y = 0 }

abbrev first : List ℕ → ℕ → Reading
first memory start = reading older_memory panel (from start) 0 0 memory

-- the last dword, where byte 81,916 is looked at, and 25 from dword 20,480 on
pub last_dword : (memory : List ℕ) → length memory ≡ 81920
    → ((first memory 20479).number ≡ 0) × ((first memory 20479).address ≡ 81916) × ((first memory 20480).number ≡ 25)
unfolding first_of is_depth panel_ok view_width whole_dwords values_fit walk in_window_by corner_p corner_q place_of read_rows read_at
last_dword memory e =
    let last : first_of (read_rows older_memory panel (from 20479) 0 0 (length memory)) ≡ 0 = rw e refl in (
      number_is older_memory panel (from 20479) 0 0 memory ∙ last,
      ap (λ (r : Reading). r.address) (reading_is older_memory panel (from 20479) 0 0 memory last),
      number_is older_memory panel (from 20480) 0 0 memory ∙ rw e refl,
    )

-- 18 for the other chip's memory
pub other_memory : (memory : List ℕ) → length memory ≡ 262144 → (first memory 0).number ≡ 18
unfolding first_of read_rows
other_memory memory e = number_is older_memory panel (from 0) 0 0 memory ∙ rw e refl
