-- Screen records and their refusal numbers, computed: two rows that fail at once, the last bytes that must be zero, and both sides of
-- each limit. Then the fields of a record of different bytes, and the six values of a window at each rotation.
use Prim.Native.Nat.{ℕ, ◌/◌, ◌%◌}
use mathlib.Core.Path.{◌≡◌, refl}
use mathlib.Core.Bool.{Bool, true, false}
use mathlib.Core.List.{List, [], ◌∷◌, ◌++◌, map}
use lib.ListN.{replicate, set}
use Rattle.record.specs.Bytes.{all_zero, two_bytes, four_bytes}
use Rattle.record.specs.Checks.{row, first_of}
use Rattle.pixel.specs.Depth.{is_depth}
use Rattle.screen.specs.Image.{image_end, start_of}
use Rattle.screen.specs.Screen.{memory_size, fields_of, well_formed, panel_ok, view_width, view_height, whole_dwords, main_image, window_image, line_ok, image_ok, window_ok, window_whole, field_rows, screen_rows}
use Rattle.screen.specs.Values.{window_x, window_y, origin_of, values_of}
use Rattle.screen.specs.Fields.{values_fit}
use Rattle.screen.specs.Shown.{without}
use Rattle.screen.specs.Cases.{lined, plain, window_lined, with_window}
use Rattle.screen.specs.declared.Screen.{Screen}

abbrev number : List ℕ → ℕ
number b = first_of (screen_rows memory_size b)

-- a record of a panel at a depth, with a window at a base, lines as long as the shown width
abbrev screen : ℕ → ℕ → ℕ → ℕ → ℕ → ℕ → ℕ → ℕ → ℕ → ℕ → List ℕ
screen depth rotation width height base windowBase x y w h =
    depth ∷ rotation ∷ 1 ∷ 0 ∷ two_bytes width ++ two_bytes height ++ four_bytes base ++ four_bytes windowBase ++ two_bytes x ++ two_bytes y ++ two_bytes w ++ two_bytes h ++ four_bytes 0 ++ four_bytes 0

-- S1's screen, and a window of 16 by 2 at (8, 1) on it
abbrev bare : List ℕ
bare = plain 4 0 320 240 0

abbrev full : List ℕ
full = with_window 0 8 1 16 2

-- of two rows that fail at once the first is given: 1 and 2, 2 and 3, .., 8 and 9; and with the main image's 26: 1, 5, 6, 7, with the window's:
-- 6, 7, 8, 9
pub first_of_two : map number (
    set (set bare 3 1) 0 3
    ∷ set (set bare 0 3) 1 4
    ∷ plain 4 4 0 240 0
    ∷ plain 4 0 4 240 0
    ∷ plain 4 1 320 241 2
    ∷ screen 4 0 320 240 2 0 8 1 0 2
    ∷ screen 4 0 320 240 0 0 316 1 8 2
    ∷ screen 4 0 320 240 0 2 4 1 16 2
    ∷ set (lined 4 0 320 240 0 8) 3 1
    ∷ lined 4 1 320 241 0 8
    ∷ lined 4 0 320 240 2 8
    ∷ window_lined 0 8 1 0 2 0 0 8 0
    ∷ window_lined 0 8 1 16 2 2 0 0 8
    ∷ window_lined 0 8 1 16 0 0 0 0 8
    ∷ window_lined 0 4 1 16 2 0 0 0 8
    ∷ window_lined 0 8 1 16 2 0 2 0 8
    ∷ [])
    ≡ 1 ∷ 2 ∷ 3 ∷ 4 ∷ 5 ∷ 6 ∷ 7 ∷ 8
    ∷ 1 ∷ 5 ∷ 26 ∷ 26
    ∷ 6 ∷ 7 ∷ 8 ∷ 26
    ∷ []
unfolding all_zero first_of is_depth image_end fields_of well_formed panel_ok view_width view_height whole_dwords main_image window_image line_ok image_ok window_ok window_whole field_rows screen_rows
first_of_two = refl

-- a table without its rows of number 26, the first, the last and one between, has all others in their order
pub left_out : without 26 (row 26 true ∷ row 5 false ∷ row 26 false ∷ row 6 true ∷ row 26 true ∷ []) ≡ row 5 false ∷ row 6 true ∷ []
unfolding without
left_out = refl

-- 1: 31 and 33 bytes, flag 2, and each byte that must be zero at its edge: 3, 28, 31, and with flag 0 alone 12 and 23, 26 and 27; a line length of
-- main may stand in any record
pub form : map number (
    bare
    ∷ full
    ∷ (4 ∷ replicate 30 0)
    ∷ (bare ++ (0 ∷ []))
    ∷ set full 2 2
    ∷ set bare 3 1
    ∷ set bare 28 1
    ∷ set bare 31 1
    ∷ set full 28 1
    ∷ set full 31 1
    ∷ set bare 12 1
    ∷ set bare 23 1
    ∷ set full 12 4
    ∷ set full 23 1
    ∷ set bare 26 16
    ∷ set bare 27 1
    ∷ set full 26 16
    ∷ set full 27 1
    ∷ set bare 25 2
    ∷ set bare 24 1
    ∷ [])
    ≡ 0 ∷ 0 ∷ 1 ∷ 1 ∷ 1 ∷ 1 ∷ 1 ∷ 1 ∷ 1 ∷ 1 ∷ 1 ∷ 1 ∷ 0 ∷ 7
    ∷ 1 ∷ 1 ∷ 0 ∷ 0 ∷ 0 ∷ 26
    ∷ []
unfolding all_zero first_of is_depth image_end fields_of well_formed panel_ok view_width view_height whole_dwords main_image window_image line_ok image_ok window_ok window_whole field_rows screen_rows
form = refl

-- 2: depths; 3: rotations; 4: widths and heights; 5: a view turned by 90 degrees is as wide as the panel is high
pub panels : map number (
    plain 1 0 320 240 0 ∷ plain 2 0 320 240 0 ∷ plain 8 0 320 240 0 ∷ plain 16 0 320 240 0 ∷ plain 0 0 320 240 0 ∷ plain 32 0 320 240 0
    ∷ plain 4 3 320 240 0 ∷ plain 4 4 320 240 0
    ∷ plain 4 0 8 1 0 ∷ plain 2 0 1024 1024 0 ∷ plain 4 0 0 240 0 ∷ plain 4 0 1032 240 0 ∷ plain 4 0 12 240 0 ∷ plain 4 0 320 0 0 ∷ plain 4 0 8 1025 0
    ∷ plain 1 0 40 8 0 ∷ plain 4 0 320 241 0 ∷ plain 4 1 320 241 0 ∷ plain 4 2 320 241 0 ∷ plain 4 3 320 241 0
    ∷ [])
    ≡ 0 ∷ 0 ∷ 0 ∷ 0 ∷ 2 ∷ 2
    ∷ 0 ∷ 3
    ∷ 0 ∷ 0 ∷ 4 ∷ 4 ∷ 4 ∷ 4 ∷ 4
    ∷ 5 ∷ 0 ∷ 5 ∷ 0 ∷ 5
    ∷ []
unfolding all_zero first_of is_depth image_end fields_of well_formed panel_ok view_width view_height whole_dwords main_image window_image line_ok image_ok window_ok window_whole field_rows screen_rows
panels = refl

-- 6: the base, and an image that ends at the last byte or a line past it; 7: sizes and sides of the window; 8: its x and width; 9: its base
-- and its end. At depth 4 the window of 16 by 2 has 16 bytes.
pub windows : map number (
    plain 4 0 320 240 2 ∷ plain 4 0 320 240 4 ∷ plain 8 0 1024 256 0 ∷ plain 8 0 1024 256 4
    ∷ screen 4 0 320 240 0 0 8 1 0 2 ∷ screen 4 0 320 240 0 0 8 1 16 0 ∷ screen 4 0 320 240 0 0 304 238 16 2 ∷ screen 4 0 320 240 0 0 312 238 16 2 ∷ screen 4 0 320 240 0 0 304 239 16 2
    ∷ screen 4 1 320 240 0 0 224 318 16 2 ∷ screen 4 1 320 240 0 0 232 318 16 2
    ∷ screen 4 0 320 240 0 0 4 1 16 2 ∷ screen 4 0 320 240 0 0 8 1 20 2
    ∷ screen 4 0 320 240 0 2 8 1 16 2 ∷ screen 4 0 320 240 0 262128 8 1 16 2 ∷ screen 4 0 320 240 0 262132 8 1 16 2
    ∷ [])
    ≡ 6 ∷ 0 ∷ 0 ∷ 6
    ∷ 7 ∷ 7 ∷ 0 ∷ 7 ∷ 7
    ∷ 0 ∷ 7
    ∷ 8 ∷ 8
    ∷ 9 ∷ 0 ∷ 9
    ∷ []
unfolding all_zero first_of is_depth image_end fields_of well_formed panel_ok view_width view_height whole_dwords main_image window_image line_ok image_ok window_ok window_whole field_rows screen_rows
windows = refl

-- the fields of a record of the bytes 0, 1, 2 and so on: numbers are little-endian
pub fields : fields_of (0 ∷ 1 ∷ 2 ∷ 3 ∷ 4 ∷ 5 ∷ 6 ∷ 7 ∷ 8 ∷ 9 ∷ 10 ∷ 11 ∷ 12 ∷ 13 ∷ 14 ∷ 15 ∷ 16 ∷ 17 ∷ 18 ∷ 19 ∷ 20 ∷ 21 ∷ 22 ∷ 23 ∷ 24 ∷ 25 ∷ 26 ∷ 27 ∷ [])
    ≡ record {
      depth = 0;
      rotation = 1;
      flag = 2;
      width = 0x0504;
      height = 0x0706;
      base = 0x0B0A0908;
      line = 0x1918;
      window = record { base = 0x0F0E0D0C; x = 0x1110; y = 0x1312; width = 0x1514; height = 0x1716; line = 0x1B1A };
    }
unfolding fields_of
fields = refl

-- a window of 16 by 2 at (8, 1) on S1's panel with its image at byte 40,000, at the four rotations: start, offset, X and Y. Its line has
-- two dwords, its image four; 320 and 240 pixels are 40 and 30 dwords.
abbrev placed : ℕ → Screen
placed rotation = fields_of (screen 4 rotation 320 240 0 40000 8 1 16 2)

abbrev values : ℕ → List ℕ
values rotation = let v = values_of (placed rotation) in v.window.start ∷ v.window.offset ∷ v.x % 65536 ∷ v.x / 65536 ∷ v.y % 65536 ∷ v.y / 65536 ∷ []

pub window_values : map values (0 ∷ 1 ∷ 2 ∷ 3 ∷ [])
    ≡ (10000 ∷ 2 ∷ 1 ∷ 2 ∷ 1 ∷ 2 ∷ [])
    ∷ (10001 ∷ 2 ∷ 1 ∷ 2 ∷ 27 ∷ 28 ∷ [])
    ∷ (10003 ∷ 2 ∷ 37 ∷ 38 ∷ 237 ∷ 238 ∷ [])
    ∷ (10002 ∷ 2 ∷ 317 ∷ 318 ∷ 1 ∷ 2 ∷ [])
    ∷ []
unfolding fields_of start_of view_width view_height main_image window_image window_x window_y origin_of values_of
window_values = refl

-- with flag 0 the last four values are 0
pub bare_values : values_of (fields_of bare) ≡ record { main = record { start = 0; offset = 0x28 }; window = record { start = 0; offset = 0 }; x = 0; y = 0 }
unfolding fields_of start_of view_width view_height main_image window_image window_x window_y origin_of values_of
bare_values = refl

-- the last number of each field, and the next: starts, offsets, positions
abbrev fit : ℕ → ℕ → ℕ → ℕ → ℕ → ℕ → Bool
fit a b c d x y = values_fit (record { main = record { start = a; offset = b }; window = record { start = c; offset = d }; x = x; y = y })

pub fits : fit 0xFFFF 0x3FF 0xFFFF 0x3FF 0x3FF03FF 0x3FF03FF
    ∷ fit 0x10000 0 0 0 0 0
    ∷ fit 0 0x400 0 0 0 0
    ∷ fit 0 0 0x10000 0 0 0
    ∷ fit 0 0 0 0x400 0 0
    ∷ fit 0 0 0 0 0x400 0
    ∷ fit 0 0 0 0 0x4000000 0
    ∷ fit 0 0 0 0 0 0x400
    ∷ fit 0 0 0 0 0 0x4000000
    ∷ []
    ≡ true ∷ false ∷ false ∷ false ∷ false ∷ false ∷ false ∷ false ∷ false ∷ []
unfolding values_fit
fits = refl
