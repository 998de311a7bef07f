-- Heads, pixels, lines and points of pictures, and the line of a point, computed.
use Prim.Native.Nat.{ℕ}
use mathlib.Core.Path.{◌≡◌, refl}
use mathlib.Core.List.{List, [], ◌∷◌}
use lib.ListN.{length}
use Rattle.record.specs.Checks.{first_of}
use Rattle.pixel.specs.Depth.{is_depth}
use Rattle.pixel.specs.Pixel.{get_pixel, dword_pixel}
use Rattle.screen.specs.Screen.{panel_ok, view_width, whole_dwords}
use Rattle.screen.specs.Fields.{values_fit}
use Rattle.screen.specs.declared.ScreenValues.{ScreenValues}
use Rattle.view.specs.Walk.{walk, in_window_by, corner_p, corner_q, place_of}
use Rattle.reader.specs.Read.{read_rows, read_at, refused_point, reading}
use Rattle.reader.specs.Line.{leftmost, line_number, line_after}
use Rattle.reader.specs.declared.Display.{Display}
use Rattle.std.specs.Prelude.{Ok, Err}
use Rattle.refusal.specs.Number as refusals
use Rattle.refusal.specs.declared.Refusal.TheVariants.{Point as PanelPoint}
use Rattle.text.specs.Text.{letters, last_decimal_digits, decimal}
use Rattle.text.specs.Refusal.{reason, refusal_line}
use Rattle.text.specs.Lines.{point_line}
use Rattle.picture.specs.Picture.{picture_kind, picture_head, pixel_size, pixel_bytes, line_colours, point_bytes, pixels_in, answer_line}

-- S1's panel, and the same at depth 16
grey : Display
grey = record { depth = 4; rotation = 0; flag = 0; width = 320; height = 240 }

colours : Display
colours = record { depth = 16; rotation = 0; flag = 0; width = 320; height = 240 }

grey_head : picture_head grey ≡ letters "P5\n320 240\n15\n"
unfolding grey picture_head picture_kind decimal last_decimal_digits
grey_head = refl

colour_head : picture_head colours ≡ letters "P6\n320 240\n255\n"
unfolding colours picture_head picture_kind decimal last_decimal_digits
colour_head = refl

-- a byte at depth 8, red, green and blue at depth 16
grey_pixel : pixel_bytes 8 0xF8 ≡ 0xF8 ∷ []
unfolding pixel_bytes
grey_pixel = refl

colour_pixel : pixel_bytes 16 0xF81F ≡ 255 ∷ 0 ∷ 255 ∷ []
unfolding pixel_bytes
colour_pixel = refl

dim_pixel : pixel_bytes 16 0x0410 ≡ 0 ∷ 130 ∷ 132 ∷ []
unfolding pixel_bytes
dim_pixel = refl

-- a line of 320 points of three bytes, and of 3 in ten bytes
whole_line : pixels_in colours 3072 ≡ 320
unfolding colours pixel_size
whole_line = refl

cut_line : pixels_in colours 10 ≡ 3
unfolding colours pixel_size
cut_line = refl

-- a point that is shown, and one outside the panel
shown_line : answer_line (Ok (record { colour = 15; address = 38399; bit = 3 })) ≡ letters "colour 15 address 38399 bit 3\n"
unfolding answer_line point_line decimal last_decimal_digits
shown_line = refl

refused_line : answer_line (Err PanelPoint) ≡ letters "refused 24 0: panel point outside the panel\n"
unfolding answer_line refusal_line reason decimal last_decimal_digits refusals.number
refused_line = refl

-- ---- lines of a panel of 8 × 2 points, from dword 0 on
small : ℕ → Display
small depth = record { depth = depth; rotation = 0; flag = 0; width = 8; height = 2 }

values : ScreenValues
values = record { main = record { start = 0; offset = 2 }; window = record { start = 0; offset = 0 }; x = 0; y = 0 }

-- four dwords, and what is behind them
memory : List ℕ → List ℕ
memory rest = 0x10 ∷ 0x11 ∷ 0x12 ∷ 0x13 ∷ 0x14 ∷ 0x15 ∷ 0x16 ∷ 0x17 ∷ 0x18 ∷ 0x19 ∷ 0x1A ∷ 0x1B ∷ 0x1C ∷ 0x1D ∷ 0x1E ∷ 0x1F ∷ rest

-- its second line; a line outside the panel, and a line of a short memory, is zeros
lines : (rest : List ℕ) → length rest ≡ 262128
    → (line_colours (small 8) values 1 (memory rest) ≡ 0x18 ∷ 0x19 ∷ 0x1A ∷ 0x1B ∷ 0x1C ∷ 0x1D ∷ 0x1E ∷ 0x1F ∷ [])
    × (line_colours (small 8) values 2 (memory rest) ≡ 0 ∷ 0 ∷ 0 ∷ 0 ∷ 0 ∷ 0 ∷ 0 ∷ 0 ∷ [])
    × (line_colours (small 8) values 1 (memory []) ≡ 0 ∷ 0 ∷ 0 ∷ 0 ∷ 0 ∷ 0 ∷ 0 ∷ 0 ∷ [])
unfolding small values memory first_of is_depth get_pixel dword_pixel panel_ok view_width whole_dwords values_fit walk in_window_by corner_p corner_q place_of read_rows read_at refused_point reading leftmost line_number line_after line_colours
lines rest e = rw e (refl, refl, refl)

-- points of its first line: a byte at depth 8, red, green and blue at depth 16
points : (rest : List ℕ) → length rest ≡ 262128
    → (point_bytes (small 8) values 0 (memory rest) 7 ≡ 0x17 ∷ []) × (point_bytes (small 16) values 0 (memory rest) 1 ≡ 16 ∷ 97 ∷ 148 ∷ [])
unfolding small values memory first_of is_depth get_pixel dword_pixel panel_ok view_width whole_dwords values_fit walk in_window_by corner_p corner_q place_of read_rows read_at refused_point reading leftmost line_number line_after line_colours pixel_bytes point_bytes
points rest e = rw e (refl, refl)
