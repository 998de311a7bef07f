-- The six screen register values of a screen (01, "Screen arithmetic" and "Blits": the stream's six screen records).
use Rattle.std.specs.Prelude.{ℕ, ◌+◌, ◌-◌, ◌*◌, ◌/◌, List, [], ◌∷◌, cond, eqb, get_or}
use Rattle.pixel.specs.Depth.{per_dword}
use Rattle.screen.specs.Image.{by_rotation, start_of, offset_of}
use Rattle.screen.specs.Screen.{main_image, window_image}
use Rattle.screen.specs.declared.Image.{Image}
use Rattle.screen.specs.declared.Window.{Window}
use Rattle.screen.specs.declared.Screen.{Screen}
use Rattle.screen.specs.declared.Origin.{Origin}
use Rattle.screen.specs.declared.ScreenValues.{ScreenValues}

-- a position register: start in bits 9-0, end in bits 25-16
abbrev pub edges : ℕ → ℕ → ℕ
edges start end = start + 65536 * end

-- 01's table of window edges, column "X start, X end": k = 32 ÷ depth, W the panel's width, the window at (x, y)
unfoldable pub window_x : ℕ → ℕ → ℕ → Window → ℕ
window_x rotation k W a =
    by_rotation rotation
    (edges (a.x / k) ((a.x + a.width - 1) / k))
    (edges a.y (a.y + a.height - 1))
    (edges ((W - a.x - a.width) / k) ((W - a.x - 1) / k))
    (edges (W - a.y - a.height) (W - a.y - 1))

-- column "Y start, Y end": H the panel's height
unfoldable pub window_y : ℕ → ℕ → ℕ → Window → ℕ
window_y rotation k H a =
    by_rotation rotation
    (edges a.y (a.y + a.height - 1))
    (edges ((H - a.x - a.width) / k) ((H - a.x) / k - 1))
    (edges (H - a.y - a.height) (H - a.y - 1))
    (edges (a.x / k) ((a.x + a.width - 1) / k))

-- start and line offset of an image
unfoldable pub origin_of : ℕ → ℕ → Image → Origin
origin_of rotation depth i = record { start = start_of rotation depth i; offset = offset_of i }

-- the six values; the last four are 0 with flag 0
unfoldable pub values_of : Screen → ScreenValues
values_of s =
    record {
      main = origin_of s.rotation s.depth (main_image s);
      window = cond (eqb s.flag 0) (record { start = 0; offset = 0 }) (origin_of s.rotation s.depth (window_image s));
      x = cond (eqb s.flag 0) 0 (window_x s.rotation (per_dword s.depth) s.width s.window);
      y = cond (eqb s.flag 0) 0 (window_y s.rotation (per_dword s.depth) s.height s.window);
    }

-- the six in the stream's order: main start, main offset, window start, window offset, X, Y
abbrev pub six_values : ScreenValues → List ℕ
six_values v = v.main.start ∷ v.main.offset ∷ v.window.start ∷ v.window.offset ∷ v.x ∷ v.y ∷ []

-- the screen values from six numbers in that order
abbrev pub values_with : List ℕ → ScreenValues
values_with v =
    record {
      main = record { start = get_or v 0 0; offset = get_or v 1 0 };
      window = record { start = get_or v 2 0; offset = get_or v 3 0 };
      x = get_or v 4 0;
      y = get_or v 5 0;
    }
