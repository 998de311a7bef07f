-- The screen record (01, "Stored records"; 02, c), and its refusals 1 to 9 and 26 (01, "Refusal numbers"; 02, c).
use Rattle.std.specs.Prelude.{ℕ, ◌+◌, ◌*◌, ◌%◌, List, [], ◌∷◌, Bool, ◌&&◌, ◌||◌, not, cond, length, take, drop, Result, ltb, leb, eqb}
use Rattle.record.specs.Bytes.{byte_at, u16_at, u32_at, all_zero}
use Rattle.record.specs.Checks.{Row, row, first_of}
use Rattle.pixel.specs.Depth.{is_depth, per_dword}
use Rattle.refusal.specs.Number.{answered}
use Rattle.refusal.specs.declared.Refusal.{Refusal}
use Rattle.screen.specs.Image.{line_bytes, line_pixels, image_end}
use Rattle.screen.specs.declared.Image.{Image}
use Rattle.screen.specs.declared.Screen.{Screen}

-- bytes of display memory of the S1D13A05
abbrev pub memory_size : ℕ
memory_size = 262144

-- the record's fields
unfoldable pub fields_of : List ℕ → Screen
fields_of b =
    record {
      depth = byte_at b 0;
      rotation = byte_at b 1;
      flag = byte_at b 2;
      width = u16_at b 4;
      height = u16_at b 6;
      base = u32_at b 8;
      line = u16_at b 24;
      window =
          record {
            base = u32_at b 12;
            x = u16_at b 16;
            y = u16_at b 18;
            width = u16_at b 20;
            height = u16_at b 22;
            line = u16_at b 26;
          };
    }

-- the record has 32 bytes, its flag is 0 or 1, and what must be zero is: byte 3, bytes 28-31, and with flag 0 bytes 12-23 and the
-- window's line length
unfoldable pub well_formed : List ℕ → Bool
well_formed b =
    eqb (length b) 32
    && (leb (byte_at b 2) 1
    && (eqb (byte_at b 3) 0
    && (all_zero (take 4 (drop 28 b))
    && (not (eqb (byte_at b 2) 0) || (all_zero (take 12 (drop 12 b)) && all_zero (take 2 (drop 26 b)))))))

-- the panel's width is a multiple of 8 in 8 to 1,024, its height 1 to 1,024
unfoldable pub panel_ok : ℕ → ℕ → Bool
panel_ok width height = eqb (width % 8) 0 && (leb 8 width && (leb width 1024 && (leb 1 height && leb height 1024)))

-- turned by 90 or 270 degrees
abbrev pub quarter : ℕ → Bool
quarter rotation = eqb rotation 1 || eqb rotation 3

-- the view: panel width by height at 0 and 180 degrees, exchanged at 90 and 270
unfoldable pub view_width : ℕ → ℕ → ℕ → ℕ
view_width rotation width height = cond (quarter rotation) height width

unfoldable pub view_height : ℕ → ℕ → ℕ → ℕ
view_height rotation width height = cond (quarter rotation) width height

-- a multiple of 32 ÷ depth
unfoldable pub whole_dwords : ℕ → ℕ → Bool
whole_dwords depth n = eqb (n % per_dword depth) 0

-- the main image shows the view
unfoldable pub main_image : Screen → Image
main_image s =
    record {
      base = s.base;
      line = line_bytes s.depth (line_pixels s.line (view_width s.rotation s.width s.height));
      width = view_width s.rotation s.width s.height;
      height = view_height s.rotation s.width s.height;
    }

unfoldable pub window_image : Screen → Image
window_image s =
    record {
      base = s.window.base;
      line = line_bytes s.depth (line_pixels s.window.line s.window.width);
      width = s.window.width;
      height = s.window.height;
    }

-- a line length that is given is not below the shown width, a multiple of 32 ÷ depth, and not over 1,023 dwords
unfoldable pub line_ok : ℕ → ℕ → ℕ → Bool
line_ok depth given width = eqb given 0 || (leb width given && (whole_dwords depth given && leb (line_bytes depth given) (4 * 1023)))

-- the base is a multiple of 4, and the image does not end past byte m
unfoldable pub image_ok : ℕ → ℕ → Image → Bool
image_ok m depth i = eqb (i.base % 4) 0 && leb (image_end depth i) m

-- the window has pixels, and lies in the view
unfoldable pub window_ok : Screen → Bool
window_ok s =
    leb 1 s.window.width
    && (leb 1 s.window.height
    && (leb (s.window.x + s.window.width) (main_image s).width
    && leb (s.window.y + s.window.height) (main_image s).height))

-- window x and width are multiples of 32 ÷ depth
unfoldable pub window_whole : Screen → Bool
window_whole s = whole_dwords s.depth s.window.x && whole_dwords s.depth s.window.width

-- "7 to 9 apply with flag 1 only", and so does the window's 26
abbrev pub windowed : Screen → Bool
windowed s = eqb s.flag 1

-- 01's table, rows 2 to 9, in a memory of m bytes; 26 "after 5 for main and after 8 for the window"
unfoldable pub field_rows : ℕ → Screen → List Row
field_rows m s =
    row 2 (not (is_depth s.depth))
    ∷ row 3 (ltb 3 s.rotation)
    ∷ row 4 (not (panel_ok s.width s.height))
    ∷ row 5 (not (whole_dwords s.depth (main_image s).width))
    ∷ row 26 (not (line_ok s.depth s.line (main_image s).width))
    ∷ row 6 (not (image_ok m s.depth (main_image s)))
    ∷ row 7 (windowed s && not (window_ok s))
    ∷ row 8 (windowed s && not (window_whole s))
    ∷ row 26 (windowed s && not (line_ok s.depth s.window.line s.window.width))
    ∷ row 9 (windowed s && not (image_ok m s.depth (window_image s)))
    ∷ []

-- row 1, and these
unfoldable pub screen_rows : ℕ → List ℕ → List Row
screen_rows m b = row 1 (not (well_formed b)) ∷ field_rows m (fields_of b)

-- the answer to a record: its screen, or the first number
unfoldable pub screen_of : ℕ → List ℕ → Result Screen Refusal
screen_of m b = answered (first_of (screen_rows m b)) (fields_of b)
