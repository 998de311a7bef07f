-- 01's cases S1 to S9 and those of line lengths: one list, one claim, computed; and that the comparison tells lists apart.
use mathlib.Core.Path.{◌≡◌, refl}
use mathlib.Core.Bool.{true, false}
use mathlib.Core.List.{[], ◌∷◌, ◌++◌}
use Rattle.record.specs.Bytes.{all_zero}
use Rattle.record.specs.Checks.{first_of}
use Rattle.pixel.specs.Depth.{is_depth}
use Rattle.screen.specs.Image.{image_end, start_of}
use Rattle.screen.specs.Screen.{fields_of, well_formed, panel_ok, view_width, view_height, whole_dwords, main_image, window_image, line_ok, image_ok, window_ok, window_whole, field_rows, screen_rows, screen_of}
use Rattle.screen.specs.Values.{window_x, window_y, origin_of, values_of}
use Rattle.refusal.specs.Number as refusals
use Rattle.screen.specs.Cases.{case, same, all_hold, screen_cases, line_cases}

pub cases_hold : all_hold (screen_cases ++ line_cases) ≡ true
unfolding refusals.answered refusals.number refusals.refusal all_zero first_of is_depth image_end start_of fields_of well_formed panel_ok view_width view_height whole_dwords main_image window_image line_ok image_ok window_ok window_whole field_rows screen_rows screen_of window_x window_y origin_of values_of all_hold screen_cases line_cases
cases_hold = refl

-- a number that is missing, one too many, and another one are each told; so is a single case among others
pub told_apart : same (1 ∷ 2 ∷ []) (1 ∷ 2 ∷ []) ∷ same (1 ∷ []) (1 ∷ 0 ∷ []) ∷ same (1 ∷ 0 ∷ []) (1 ∷ []) ∷ same (1 ∷ 2 ∷ []) (1 ∷ 3 ∷ []) ∷ []
    ≡ true ∷ false ∷ false ∷ false ∷ []
told_apart = refl

pub one_fails : all_hold (case (1 ∷ []) (1 ∷ []) ∷ case (1 ∷ []) (2 ∷ []) ∷ case (1 ∷ []) (1 ∷ []) ∷ []) ≡ false
unfolding all_hold
one_fails = refl
