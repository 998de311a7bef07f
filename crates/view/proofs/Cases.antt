-- View pixels, walks and windows, computed: 01's cells at one point of S1's panel, 320 by 240 with eight pixels to a dword.
use Prim.Native.Nat.{ℕ}
use mathlib.Core.Path.{◌≡◌, refl}
use mathlib.Core.Bool.{Bool, true, false}
use mathlib.Core.List.{List, [], ◌∷◌, map}
use Rattle.screen.specs.Screen.{view_width, view_height, main_image, window_image}
use Rattle.screen.specs.declared.Screen.{Screen}
use Rattle.screen.specs.declared.ScreenValues.{ScreenValues}
use Rattle.view.specs.View.{view_pixel, in_window, window_pixel, bit_address}
use Rattle.view.specs.Walk.{walk, in_window_by, corner_p, corner_q, place_of}
use Rattle.view.specs.Steps.{window_columns, steps_at, steps_from, bits_after}
use Rattle.view.specs.Shows.{shown_bit}

abbrev rotations : List ℕ
rotations = 0 ∷ 1 ∷ 2 ∷ 3 ∷ []

-- the view pixel that belongs at panel point (10, 20): (p, q); (H − 1 − q, p); (W − 1 − p, H − 1 − q); (q, W − 1 − p)
pub pixels : map (λ r. let x = view_pixel r 320 240 10 20 in x.u ∷ x.v ∷ []) rotations
    ≡ (10 ∷ 20 ∷ []) ∷ (219 ∷ 10 ∷ []) ∷ (309 ∷ 219 ∷ []) ∷ (20 ∷ 309 ∷ []) ∷ []
unfolding view_pixel
pixels = refl

-- the walk to that point from dword 1,000 with 40 dwords to a line: added, taken away, and the pixel of the dword
pub walks : map (λ r. let w = walk r 8 (record { start = 1000; offset = 40 }) 10 20 in w.up ∷ w.down ∷ w.pixel ∷ []) rotations
    ≡ (1801 ∷ 0 ∷ 2 ∷ []) ∷ (1400 ∷ 2 ∷ 3 ∷ []) ∷ (1000 ∷ 801 ∷ 5 ∷ []) ∷ (1002 ∷ 400 ∷ 4 ∷ []) ∷ []
unfolding walk
walks = refl

-- a window whose edges are 1 to 2 in X and 3 to 4 in Y. Across, at 0 and 180 degrees, a dword is eight points, else a point; down it is the other way round.
abbrev taken : ℕ → ℕ → ℕ → Bool
taken rotation p q = in_window_by rotation 8 0x20001 0x40003 p q

pub window_0 : taken 0 8 3 ∷ taken 0 23 4 ∷ taken 0 7 3 ∷ taken 0 24 3 ∷ taken 0 8 2 ∷ taken 0 8 5 ∷ taken 2 23 4 ∷ taken 2 24 4 ∷ []
    ≡ true ∷ true ∷ false ∷ false ∷ false ∷ false ∷ true ∷ false ∷ []
unfolding in_window_by
window_0 = refl

pub window_90 : taken 1 1 24 ∷ taken 1 2 39 ∷ taken 1 0 24 ∷ taken 1 3 24 ∷ taken 1 1 23 ∷ taken 1 1 40 ∷ taken 3 2 39 ∷ taken 3 2 40 ∷ []
    ≡ true ∷ true ∷ false ∷ false ∷ false ∷ false ∷ true ∷ false ∷ []
unfolding in_window_by
window_90 = refl

-- the corner that its walk counts from
pub corners : map (λ r. corner_p r 8 0x20001 ∷ corner_q r 8 0x40003 ∷ []) rotations
    ≡ (8 ∷ 3 ∷ []) ∷ (1 ∷ 24 ∷ []) ∷ (8 ∷ 3 ∷ []) ∷ (1 ∷ 24 ∷ []) ∷ []
unfolding corner_p corner_q
corners = refl

-- where the chip looks with these edges, the window from dword 5,000 on with two dwords to a line: in the window at (10, 4), which is (2, 1) from its
-- corner; in the main image with flag 0, and outside the window
abbrev values : ScreenValues
values = record { main = record { start = 1000; offset = 40 }; window = record { start = 5000; offset = 2 }; x = 0x20001; y = 0x40003 }

abbrev looked : ℕ → ℕ → ℕ → List ℕ
looked flag p q = let w = place_of 4 0 flag values p q in w.up ∷ w.down ∷ w.pixel ∷ []

pub looks : looked 1 10 4 ∷ looked 0 10 4 ∷ looked 1 10 5 ∷ [] ≡ (5002 ∷ 0 ∷ 2 ∷ []) ∷ (1161 ∷ 0 ∷ 2 ∷ []) ∷ (1201 ∷ 0 ∷ 2 ∷ []) ∷ []
unfolding walk in_window_by corner_p corner_q place_of
looks = refl

-- the window's columns of a panel line: 8 to 23 of line 4 upright, if there are as many, and 1 to 2 of line 24 turned; none of the other line
abbrev across : ℕ → ℕ → ℕ → List ℕ
across rotation width q = let c = window_columns 4 rotation 1 values width q in c.from ∷ c.to ∷ []

pub columns : across 0 320 4 ∷ across 0 20 4 ∷ across 0 320 24 ∷ across 1 320 24 ∷ across 1 320 4 ∷ []
    ≡ (8 ∷ 24 ∷ []) ∷ (8 ∷ 20 ∷ []) ∷ (0 ∷ 0 ∷ []) ∷ (1 ∷ 3 ∷ []) ∷ (0 ∷ 0 ∷ []) ∷ []
unfolding window_columns
columns = refl

-- the bits before the pixel two steps on from (8, 4): before pixel 2 of dword 5,002 and pixel 5 of dword 4,998, in the window; and, turned, before pixel 3
-- of dword 1,400 and pixel 4 of dword 600, in the main image
pub steps : map (λ r. bits_after (steps_from 4 r 1 values 8 4) 2) rotations ≡ 160072 ∷ 44812 ∷ 159956 ∷ 19216 ∷ []
unfolding walk in_window_by corner_p corner_q place_of steps_from steps_at
steps = refl

-- the bits before the pixel that an upright screen of depth 4 shows at (10, 4), a window of 16 by 2 at (8, 3) with its image at byte 40,000 over it or not
abbrev screen : ℕ → Screen
screen flag =
    record { depth = 4; rotation = 0; flag = flag; width = 320; height = 240; base = 100; line = 0; window = record { base = 40000; x = 8; y = 3; width = 16; height = 2; line = 0 } }

pub bits : shown_bit (screen 1) 10 4 ∷ shown_bit (screen 0) 10 4 ∷ shown_bit (screen 1) 24 4 ∷ shown_bit (screen 1) 10 5 ∷ []
    ≡ 320072 ∷ 5960 ∷ 6016 ∷ 7240 ∷ []
unfolding view_width view_height main_image window_image view_pixel in_window window_pixel bit_address shown_bit
bits = refl
