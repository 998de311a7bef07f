-- Readings, computed: two checks that fail at once in the reader's order, both sides of each limit, colours, and where they stand; and panel lines.
use Prim.Native.Nat.{ℕ, ◌+◌, ◌-◌}
use mathlib.Core.Path.{◌≡◌, refl}
use mathlib.Core.List.{List, [], ◌∷◌, map}
use mathlib.Core.Bool.{true, false}
use lib.ListN.{length}
use Rattle.record.specs.Checks.{row, first_of}
use Rattle.record.specs.Lists.{tabulate}
use Rattle.pixel.specs.Depth.{is_depth}
use Rattle.pixel.specs.Pixel.{get_pixel, dword_pixel, pixel_bit}
use Rattle.screen.specs.Screen.{panel_ok, view_width, whole_dwords}
use Rattle.screen.specs.Fields.{values_fit}
use Rattle.screen.specs.declared.ScreenValues.{ScreenValues}
use Rattle.view.specs.Walk.{walk, in_window_by, corner_p, corner_q, place_of}
use Rattle.reader.specs.Read.{read_rows, read_at, refused_point, reading, reading_of, reading_by, answer_of}
use Rattle.reader.specs.Line.{leftmost, line_number, line_after, point_rows, line_rows}
use Rattle.reader.specs.Along.{all_inside, colours_from}
use Rattle.reader.specs.declared.Display.{Display}
use Rattle.std.specs.Prelude.{Ok, Err}
use Rattle.refusal.specs.Number as refusals
use Rattle.refusal.specs.declared.Refusal.TheVariants.{Point as PanelPoint}

abbrev display : ℕ → ℕ → ℕ → ℕ → ℕ → Display
display depth rotation flag width height = record { depth = depth; rotation = rotation; flag = flag; width = width; height = height }

-- the main image from a start, lines of two dwords; the window from dword 3, lines of one dword, over the panel's second dword
abbrev values : ℕ → ScreenValues
values start =
    record {
      main = record { start = start; offset = 2 };
      window = record { start = 3; offset = 1 };
      x = 0x10001;
      y = 0;
    }

-- sixteen bytes
abbrev memory : List ℕ
memory = 0x10 ∷ 0x11 ∷ 0x12 ∷ 0x13 ∷ 0x14 ∷ 0x15 ∷ 0x16 ∷ 0x17 ∷ 0x18 ∷ 0x19 ∷ 0x1A ∷ 0x1B ∷ 0x1C ∷ 0x1D ∷ 0x1E ∷ 0x1F ∷ []

abbrev number : Display → ScreenValues → ℕ → ℕ → List ℕ → ℕ
number d v p q m = (reading 16 d v p q m).number

-- of two checks that fail at once the first in the order 18, 1, 2, 3, 4, 5, 21, 24, 25 is given
pub first_of_two : number (display 8 0 2 8 2) (values 0) 0 0 []
    ∷ number (display 3 0 2 8 2) (values 0) 0 0 memory
    ∷ number (display 3 4 0 8 2) (values 0) 0 0 memory
    ∷ number (display 8 4 0 0 2) (values 0) 0 0 memory
    ∷ number (display 1 0 0 4 2) (values 0) 0 0 memory
    ∷ number (display 1 0 0 8 2) (values 0x10000) 0 0 memory
    ∷ number (display 8 0 0 8 2) (values 0x10000) 8 0 memory
    ∷ number (display 8 0 0 8 2) (values 4) 8 0 memory
    ∷ []
    ≡ 18 ∷ 1 ∷ 2 ∷ 3 ∷ 4 ∷ 5 ∷ 21 ∷ 24 ∷ []
unfolding first_of is_depth panel_ok view_width whole_dwords values_fit walk in_window_by corner_p corner_q place_of read_rows read_at refused_point reading
first_of_two = refl

-- the last point of the panel, and the points next to it; the last dword and the next; a dword below 0; a view of 12 pixels turned by 90 degrees
pub limits : number (display 8 0 1 8 2) (values 0) 7 1 memory
    ∷ number (display 8 0 1 8 2) (values 0) 8 1 memory
    ∷ number (display 8 0 1 8 2) (values 0) 7 2 memory
    ∷ number (display 8 0 0 8 1) (values 3) 3 0 memory
    ∷ number (display 8 0 0 8 1) (values 3) 4 0 memory
    ∷ number (display 8 2 0 8 1) (values 0) 3 0 memory
    ∷ number (display 8 2 0 8 1) (values 0) 4 0 memory
    ∷ number (display 8 1 0 8 2) (values 0) 0 0 memory
    ∷ number (display 8 3 0 8 12) (values 0) 0 0 memory
    ∷ number (display 8 0 0 8 1) (values 0) 0 0 (0 ∷ memory)
    ∷ []
    ≡ 0 ∷ 24 ∷ 24 ∷ 0 ∷ 25 ∷ 0 ∷ 25 ∷ 5 ∷ 0 ∷ 18 ∷ []
unfolding first_of is_depth panel_ok view_width whole_dwords values_fit walk in_window_by corner_p corner_q place_of read_rows read_at refused_point reading
limits = refl

-- line 0 at depth 8, of the main image, and with the window over its second dword
abbrev line : ℕ → List ℕ
line flag = map (λ p. (reading 16 (display 8 0 flag 8 1) (values 0) p 0 memory).colour) (0 ∷ 1 ∷ 2 ∷ 3 ∷ 4 ∷ 5 ∷ 6 ∷ 7 ∷ [])

pub colours : (line 0 ≡ 0x10 ∷ 0x11 ∷ 0x12 ∷ 0x13 ∷ 0x14 ∷ 0x15 ∷ 0x16 ∷ 0x17 ∷ [])
    × (line 1 ≡ 0x10 ∷ 0x11 ∷ 0x12 ∷ 0x13 ∷ 0x1C ∷ 0x1D ∷ 0x1E ∷ 0x1F ∷ [])
unfolding first_of is_depth get_pixel dword_pixel panel_ok view_width whole_dwords values_fit walk in_window_by corner_p corner_q place_of read_rows read_at refused_point reading
colours = (refl, refl)

-- where point p of line 0 stands at a depth, upright, in the main image: address and bit
abbrev where0 : ℕ → ℕ → List ℕ
where0 depth p = let r = reading 16 (display depth 0 0 64 1) (values 0) p 0 memory in r.address ∷ r.bit ∷ []

-- the first pixels of a line, the last of a byte, the first of the next, one of the second dword: below depth 8 from a byte's highest bit
-- down; at depth 8 and 16 bit 7, and at 16 the low byte's address
pub by_depth : (map (where0 1) (0 ∷ 1 ∷ 7 ∷ 8 ∷ 31 ∷ 33 ∷ []) ≡ (0 ∷ 7 ∷ []) ∷ (0 ∷ 6 ∷ []) ∷ (0 ∷ 0 ∷ []) ∷ (1 ∷ 7 ∷ []) ∷ (3 ∷ 0 ∷ []) ∷ (4 ∷ 6 ∷ []) ∷ [])
    × (map (where0 2) (0 ∷ 1 ∷ 3 ∷ 4 ∷ 15 ∷ 17 ∷ []) ≡ (0 ∷ 7 ∷ []) ∷ (0 ∷ 5 ∷ []) ∷ (0 ∷ 1 ∷ []) ∷ (1 ∷ 7 ∷ []) ∷ (3 ∷ 1 ∷ []) ∷ (4 ∷ 5 ∷ []) ∷ [])
    × (map (where0 4) (0 ∷ 1 ∷ 2 ∷ 7 ∷ 9 ∷ []) ≡ (0 ∷ 7 ∷ []) ∷ (0 ∷ 3 ∷ []) ∷ (1 ∷ 7 ∷ []) ∷ (3 ∷ 3 ∷ []) ∷ (4 ∷ 3 ∷ []) ∷ [])
    × (map (where0 8) (0 ∷ 1 ∷ 3 ∷ 5 ∷ []) ≡ (0 ∷ 7 ∷ []) ∷ (1 ∷ 7 ∷ []) ∷ (3 ∷ 7 ∷ []) ∷ (5 ∷ 7 ∷ []) ∷ [])
    × (map (where0 16) (0 ∷ 1 ∷ 2 ∷ 7 ∷ []) ≡ (0 ∷ 7 ∷ []) ∷ (2 ∷ 7 ∷ []) ∷ (4 ∷ 7 ∷ []) ∷ (14 ∷ 7 ∷ []) ∷ [])
unfolding first_of is_depth pixel_bit panel_ok view_width whole_dwords values_fit walk in_window_by corner_p corner_q place_of read_rows read_at refused_point reading
by_depth = (refl, refl, refl, refl, refl)

-- the first point of the panel at 180 and at 90 degrees, depth 4, from dword 3: the dword's last pixel; and the first of the window
pub turned : (reading 16 (display 4 2 0 8 1) (values 3) 0 0 memory ≡ record { number = 0; place = 0; colour = 0xF; address = 15; bit = 3 })
    × (reading 16 (display 4 1 0 8 8) (values 3) 0 0 memory ≡ record { number = 0; place = 0; colour = 0xF; address = 15; bit = 3 })
    × (reading 16 (display 4 0 1 16 1) (values 0) 8 0 memory ≡ record { number = 0; place = 0; colour = 1; address = 12; bit = 7 })
unfolding first_of is_depth get_pixel dword_pixel pixel_bit panel_ok view_width whole_dwords values_fit walk in_window_by corner_p corner_q place_of read_rows read_at refused_point reading
turned = (refl, refl, refl)

-- all other numbers of a refusal are 0; and the answers with such numbers
pub answers : (reading 16 (display 8 0 0 8 2) (values 0) 8 0 memory ≡ record { number = 24; place = 0; colour = 0; address = 0; bit = 0 })
    × (answer_of (reading 16 (display 8 0 0 8 2) (values 0) 8 0 memory) ≡ Err PanelPoint)
    × (answer_of (reading 16 (display 8 0 0 8 2) (values 0) 1 0 memory) ≡ Ok (record { colour = 0x11; address = 1; bit = 7 }))
    × (reading_of (Err PanelPoint) ≡ record { number = 24; place = 0; colour = 0; address = 0; bit = 0 })
    × (reading_of (Ok (record { colour = 0x11; address = 1; bit = 7 })) ≡ record { number = 0; place = 0; colour = 0x11; address = 1; bit = 7 })
unfolding first_of is_depth get_pixel dword_pixel pixel_bit panel_ok view_width whole_dwords values_fit walk in_window_by corner_p corner_q place_of read_rows read_at refused_point reading reading_by answer_of refusals.answered refusals.number refusals.refusal
answers = (refl, refl, refl, refl, refl)

-- ---- panel lines
-- the number of line q, and the buffer afterwards behind it
abbrev line_with_lem : Display → ScreenValues → ℕ → List ℕ → List ℕ → List ℕ
line_with_lem d v q m old = line_number (length m) d v q m (length old) ∷ line_after (length m) d v q m old

-- a buffer of eight colours, and one of sixteen
abbrev eight : List ℕ
eight = 1 ∷ 2 ∷ 3 ∷ 4 ∷ 5 ∷ 6 ∷ 7 ∷ 8 ∷ []

abbrev sixteen : List ℕ
sixteen = tabulate 16 (λ k. k)

-- 32 bytes
abbrev twice : List ℕ
twice = tabulate 32 (λ k. 0x10 + k)

-- start and offset of the main image and of the window, and the position register x; y is 0
abbrev images : ℕ → ℕ → ℕ → ℕ → ℕ → ScreenValues
images start offset windowStart windowOffset x =
    record {
      main = record { start = start; offset = offset };
      window = record { start = windowStart; offset = windowOffset };
      x = x;
      y = 0;
    }

-- at 0 degrees. Depth 8: the main image, the window over its second dword, the line below the window; depth 16 without and with the window,
-- and depth 4 with it
pub upright_lines : (line_with_lem (display 8 0 0 8 1) (values 0) 0 memory eight ≡ 0 ∷ 0x10 ∷ 0x11 ∷ 0x12 ∷ 0x13 ∷ 0x14 ∷ 0x15 ∷ 0x16 ∷ 0x17 ∷ [])
    × (line_with_lem (display 8 0 1 8 1) (values 0) 0 memory eight ≡ 0 ∷ 0x10 ∷ 0x11 ∷ 0x12 ∷ 0x13 ∷ 0x1C ∷ 0x1D ∷ 0x1E ∷ 0x1F ∷ [])
    × (line_with_lem (display 8 0 1 8 2) (values 0) 1 memory eight ≡ 0 ∷ 0x18 ∷ 0x19 ∷ 0x1A ∷ 0x1B ∷ 0x1C ∷ 0x1D ∷ 0x1E ∷ 0x1F ∷ [])
    × (line_with_lem (display 16 0 0 8 1) (values 0) 0 memory eight ≡ 0 ∷ 0x1110 ∷ 0x1312 ∷ 0x1514 ∷ 0x1716 ∷ 0x1918 ∷ 0x1B1A ∷ 0x1D1C ∷ 0x1F1E ∷ [])
    × (line_with_lem (display 16 0 1 8 1) (values 0) 0 memory eight ≡ 0 ∷ 0x1110 ∷ 0x1312 ∷ 0x1D1C ∷ 0x1F1E ∷ 0x1918 ∷ 0x1B1A ∷ 0x1D1C ∷ 0x1F1E ∷ [])
    × (line_with_lem (display 4 0 1 16 1) (values 0) 0 memory sixteen ≡ 0 ∷ 0x1 ∷ 0x0 ∷ 0x1 ∷ 0x1 ∷ 0x1 ∷ 0x2 ∷ 0x1 ∷ 0x3 ∷ 0x1 ∷ 0xC ∷ 0x1 ∷ 0xD ∷ 0x1 ∷ 0xE ∷ 0x1 ∷ 0xF ∷ [])
unfolding first_of is_depth get_pixel dword_pixel panel_ok view_width whole_dwords values_fit walk in_window_by corner_p corner_q place_of read_rows read_at refused_point reading leftmost line_number line_after
upright_lines = (refl, refl, refl, refl, refl, refl)

-- at 180 degrees, from the last pixel back. Depth 8: the main image, the window, the second line; depth 16 and 4
pub upside_down_lines : (line_with_lem (display 8 2 0 8 1) (values 1) 0 memory eight ≡ 0 ∷ 0x17 ∷ 0x16 ∷ 0x15 ∷ 0x14 ∷ 0x13 ∷ 0x12 ∷ 0x11 ∷ 0x10 ∷ [])
    × (line_with_lem (display 8 2 1 8 1) (values 1) 0 memory eight ≡ 0 ∷ 0x17 ∷ 0x16 ∷ 0x15 ∷ 0x14 ∷ 0x1F ∷ 0x1E ∷ 0x1D ∷ 0x1C ∷ [])
    × (line_with_lem (display 8 2 0 8 2) (values 3) 1 memory eight ≡ 0 ∷ 0x17 ∷ 0x16 ∷ 0x15 ∷ 0x14 ∷ 0x13 ∷ 0x12 ∷ 0x11 ∷ 0x10 ∷ [])
    × (line_with_lem (display 16 2 0 8 1) (values 3) 0 memory eight ≡ 0 ∷ 0x1F1E ∷ 0x1D1C ∷ 0x1B1A ∷ 0x1918 ∷ 0x1716 ∷ 0x1514 ∷ 0x1312 ∷ 0x1110 ∷ [])
    × (line_with_lem (display 4 2 0 8 1) (values 2) 0 memory eight ≡ 0 ∷ 0xB ∷ 0x1 ∷ 0xA ∷ 0x1 ∷ 0x9 ∷ 0x1 ∷ 0x8 ∷ 0x1 ∷ [])
unfolding first_of is_depth get_pixel dword_pixel panel_ok view_width whole_dwords values_fit walk in_window_by corner_p corner_q place_of read_rows read_at refused_point reading leftmost line_number line_after
upside_down_lines = (refl, refl, refl, refl, refl)

-- at 90 and 270 degrees. A dword for each column at depth 8 and 4; and the window in columns 2 to 5, where the main image is one dword
pub quarter_lines : (line_with_lem (display 8 1 0 8 4) (images 0 1 0 0 0) 0 twice eight ≡ 0 ∷ 0x13 ∷ 0x17 ∷ 0x1B ∷ 0x1F ∷ 0x23 ∷ 0x27 ∷ 0x2B ∷ 0x2F ∷ [])
    × (line_with_lem (display 8 3 0 8 4) (images 7 1 0 0 0) 0 twice eight ≡ 0 ∷ 0x2C ∷ 0x28 ∷ 0x24 ∷ 0x20 ∷ 0x1C ∷ 0x18 ∷ 0x14 ∷ 0x10 ∷ [])
    × (line_with_lem (display 4 1 0 8 8) (images 0 1 0 0 0) 1 twice eight ≡ 0 ∷ 0x1 ∷ 0x1 ∷ 0x1 ∷ 0x1 ∷ 0x2 ∷ 0x2 ∷ 0x2 ∷ 0x2 ∷ [])
    × (line_with_lem (display 4 3 0 8 8) (images 7 1 0 0 0) 1 twice eight ≡ 0 ∷ 0xC ∷ 0x8 ∷ 0x4 ∷ 0x0 ∷ 0xC ∷ 0x8 ∷ 0x4 ∷ 0x0 ∷ [])
    × (line_with_lem (display 8 1 1 8 4) (images 1 0 0 1 0x50002) 0 memory eight ≡ 0 ∷ 0x17 ∷ 0x17 ∷ 0x13 ∷ 0x17 ∷ 0x1B ∷ 0x1F ∷ 0x17 ∷ 0x17 ∷ [])
    × (line_with_lem (display 8 3 1 8 4) (images 1 0 3 1 0x50002) 0 memory eight ≡ 0 ∷ 0x14 ∷ 0x14 ∷ 0x1C ∷ 0x18 ∷ 0x14 ∷ 0x10 ∷ 0x14 ∷ 0x14 ∷ [])
unfolding first_of is_depth get_pixel dword_pixel panel_ok view_width whole_dwords values_fit walk in_window_by corner_p corner_q place_of read_rows read_at refused_point reading leftmost line_number line_after
quarter_lines = (refl, refl, refl, refl, refl, refl)

-- no column is the window's where X start is above X end; all are where it is 0 and X end lies past the panel; none where X start does
pub window_edges : (line_with_lem (display 8 0 1 8 1) (images 0 2 3 1 1) 0 memory eight ≡ 0 ∷ 0x10 ∷ 0x11 ∷ 0x12 ∷ 0x13 ∷ 0x14 ∷ 0x15 ∷ 0x16 ∷ 0x17 ∷ [])
    × (line_with_lem (display 8 1 1 8 4) (images 1 0 0 1 0x40005) 0 memory eight ≡ 0 ∷ 0x17 ∷ 0x17 ∷ 0x17 ∷ 0x17 ∷ 0x17 ∷ 0x17 ∷ 0x17 ∷ 0x17 ∷ [])
    × (line_with_lem (display 8 0 1 8 1) (images 0 2 2 1 0x90000) 0 memory eight ≡ 0 ∷ 0x18 ∷ 0x19 ∷ 0x1A ∷ 0x1B ∷ 0x1C ∷ 0x1D ∷ 0x1E ∷ 0x1F ∷ [])
    × (line_with_lem (display 8 0 1 8 1) (images 0 2 3 1 0x90002) 0 memory eight ≡ 0 ∷ 0x10 ∷ 0x11 ∷ 0x12 ∷ 0x13 ∷ 0x14 ∷ 0x15 ∷ 0x16 ∷ 0x17 ∷ [])
unfolding first_of is_depth get_pixel dword_pixel panel_ok view_width whole_dwords values_fit walk in_window_by corner_p corner_q place_of read_rows read_at refused_point reading leftmost line_number line_after
window_edges = (refl, refl, refl, refl)

-- 25, and the buffer kept: by the second dword alone; by the last column alone at 90 and 270 degrees; by the first dword alone at 180; by the first
-- column alone at 270 and 90; by the window's dword alone; by the window's only column at 90
pub outside_lines : (line_with_lem (display 8 0 0 8 1) (values 3) 0 memory eight ≡ 25 ∷ 1 ∷ 2 ∷ 3 ∷ 4 ∷ 5 ∷ 6 ∷ 7 ∷ 8 ∷ [])
    × (line_with_lem (display 8 1 0 8 4) (images 1 1 0 0 0) 0 twice eight ≡ 25 ∷ 1 ∷ 2 ∷ 3 ∷ 4 ∷ 5 ∷ 6 ∷ 7 ∷ 8 ∷ [])
    × (line_with_lem (display 8 3 0 8 4) (images 6 1 0 0 0) 0 twice eight ≡ 25 ∷ 1 ∷ 2 ∷ 3 ∷ 4 ∷ 5 ∷ 6 ∷ 7 ∷ 8 ∷ [])
    × (line_with_lem (display 8 2 0 8 1) (values 4) 0 memory eight ≡ 25 ∷ 1 ∷ 2 ∷ 3 ∷ 4 ∷ 5 ∷ 6 ∷ 7 ∷ 8 ∷ [])
    × (line_with_lem (display 8 3 0 8 4) (images 8 1 0 0 0) 0 twice eight ≡ 25 ∷ 1 ∷ 2 ∷ 3 ∷ 4 ∷ 5 ∷ 6 ∷ 7 ∷ 8 ∷ [])
    × (line_with_lem (display 8 1 0 8 8) (images 0 1 0 0 0) 4 twice eight ≡ 25 ∷ 1 ∷ 2 ∷ 3 ∷ 4 ∷ 5 ∷ 6 ∷ 7 ∷ 8 ∷ [])
    × (line_with_lem (display 8 0 1 8 1) (images 0 2 4 1 0x10001) 0 memory eight ≡ 25 ∷ 1 ∷ 2 ∷ 3 ∷ 4 ∷ 5 ∷ 6 ∷ 7 ∷ 8 ∷ [])
    × (line_with_lem (display 8 1 1 8 4) (images 1 0 4 1 0x20002) 0 memory eight ≡ 25 ∷ 1 ∷ 2 ∷ 3 ∷ 4 ∷ 5 ∷ 6 ∷ 7 ∷ 8 ∷ [])
unfolding first_of is_depth get_pixel dword_pixel panel_ok view_width whole_dwords values_fit walk in_window_by corner_p corner_q place_of read_rows read_at refused_point reading leftmost line_number line_after
outside_lines = (refl, refl, refl, refl, refl, refl, refl, refl)

-- a buffer of another length is 17 and is kept: a colour less, one more, none. Past the panel it is 24, and a panel without a column is 4
pub buffer_lengths : (line_with_lem (display 8 0 0 8 1) (values 0) 0 memory (1 ∷ 2 ∷ 3 ∷ 4 ∷ 5 ∷ 6 ∷ 7 ∷ []) ≡ 17 ∷ 1 ∷ 2 ∷ 3 ∷ 4 ∷ 5 ∷ 6 ∷ 7 ∷ [])
    × (line_with_lem (display 8 0 0 8 1) (values 0) 0 memory (0 ∷ eight) ≡ 17 ∷ 0 ∷ 1 ∷ 2 ∷ 3 ∷ 4 ∷ 5 ∷ 6 ∷ 7 ∷ 8 ∷ [])
    × (line_with_lem (display 8 0 0 8 1) (values 0) 0 memory [] ≡ 17 ∷ [])
    × (line_with_lem (display 8 0 0 8 2) (values 0) 2 memory eight ≡ 24 ∷ 1 ∷ 2 ∷ 3 ∷ 4 ∷ 5 ∷ 6 ∷ 7 ∷ 8 ∷ [])
    × (line_with_lem (display 8 0 0 0 1) (values 0) 0 memory [] ≡ 4 ∷ [])
    × (line_with_lem (display 8 0 0 0 1) (values 0) 0 memory eight ≡ 4 ∷ 1 ∷ 2 ∷ 3 ∷ 4 ∷ 5 ∷ 6 ∷ 7 ∷ 8 ∷ [])
unfolding first_of is_depth get_pixel dword_pixel panel_ok view_width whole_dwords values_fit walk in_window_by corner_p corner_q place_of read_rows read_at refused_point reading leftmost line_number line_after
buffer_lengths = (refl, refl, refl, refl, refl, refl)

-- of two checks that fail at once the first in the order 18, 1, 2, 3, 4, 5, 21, 24, 25, 17 is given
pub first_of_two_in_a_line : line_number 16 (display 8 0 2 8 2) (values 0) 0 [] 8
    ∷ line_number 16 (display 3 0 2 8 2) (values 0) 0 memory 8
    ∷ line_number 16 (display 3 4 0 8 2) (values 0) 0 memory 8
    ∷ line_number 16 (display 8 4 0 0 2) (values 0) 0 memory 8
    ∷ line_number 16 (display 1 0 0 4 2) (values 0) 0 memory 4
    ∷ line_number 16 (display 1 0 0 8 2) (values 0x10000) 0 memory 8
    ∷ line_number 16 (display 8 0 0 8 2) (values 0x10000) 2 memory 8
    ∷ line_number 16 (display 8 0 0 8 2) (values 4) 2 memory 8
    ∷ line_number 16 (display 8 0 0 8 2) (values 0) 2 memory 7
    ∷ line_number 16 (display 8 0 0 8 2) (values 4) 0 memory 7
    ∷ line_number 16 (display 8 0 0 8 2) (values 0) 0 [] 7
    ∷ []
    ≡ 18 ∷ 1 ∷ 2 ∷ 3 ∷ 4 ∷ 5 ∷ 21 ∷ 24 ∷ 24 ∷ 25 ∷ 18 ∷ []
unfolding first_of is_depth get_pixel dword_pixel panel_ok view_width whole_dwords values_fit walk in_window_by corner_p corner_q place_of read_rows read_at refused_point reading leftmost line_number line_after
first_of_two_in_a_line = refl

-- the table's first number: 25 before 17, 25 by the second dword alone, 17, none, and 4 of a panel without a column
pub line_table : first_of (line_rows 16 (display 8 0 0 8 1) (values 4) 0 16 7)
    ∷ first_of (line_rows 16 (display 8 0 0 8 1) (values 3) 0 16 8)
    ∷ first_of (line_rows 16 (display 8 0 0 8 1) (values 0) 0 16 9)
    ∷ first_of (line_rows 16 (display 8 0 0 8 1) (values 0) 0 16 8)
    ∷ first_of (line_rows 16 (display 8 0 0 0 1) (values 0) 0 16 0)
    ∷ []
    ≡ 25 ∷ 25 ∷ 17 ∷ 0 ∷ 4 ∷ []
unfolding first_of is_depth panel_ok view_width whole_dwords values_fit walk in_window_by corner_p corner_q place_of read_rows point_rows line_rows
line_table = refl

-- the leftmost of points with the numbers 0, 1, 2 and 2, 1, 0; and of rows with the numbers 1, 2, 3 that all fail
pub leftmost_first : (leftmost 3 (λ p. refused_point p) ≡ 1) × (leftmost 3 (λ p. refused_point (2 - p)) ≡ 2) × (first_of (point_rows 3 (λ p. row (p + 1) true ∷ [])) ≡ 1)
unfolding first_of refused_point leftmost point_rows
leftmost_first = (refl, refl, refl)

-- three columns from column 2 on; and where the second dword is outside, columns up to it, past it, within it, and none
pub columns : (colours_from (display 8 0 0 8 1) (values 0) 0 memory 2 3 ≡ 0x12 ∷ 0x13 ∷ 0x14 ∷ [])
    × (all_inside 16 (display 8 0 0 8 1) (values 3) 0 0 4 ≡ true)
    × (all_inside 16 (display 8 0 0 8 1) (values 3) 0 0 5 ≡ false)
    × (all_inside 16 (display 8 0 0 8 1) (values 3) 0 5 1 ≡ false)
    × (all_inside 16 (display 8 0 0 8 1) (values 3) 0 5 0 ≡ true)
unfolding get_pixel dword_pixel walk in_window_by corner_p corner_q place_of all_inside colours_from
columns = (refl, refl, refl, refl, refl)
