-- An image in display memory: its bytes, and its start and line offset registers (01, "Screen arithmetic"; 02, c).
use Rattle.std.specs.Prelude.{ℕ, ◌+◌, ◌-◌, ◌*◌, ◌/◌, cond, eqb}
use Rattle.screen.specs.declared.Image.{Image}

-- the bytes of so many pixels of a line
abbrev pub line_bytes : ℕ → ℕ → ℕ
line_bytes depth pixels = pixels * depth / 8

-- line length in pixels: "0 meaning the shown width"
abbrev pub line_pixels : ℕ → ℕ → ℕ
line_pixels given width = cond (eqb given 0) width given

-- one past the byte of the image's last shown pixel
unfoldable pub image_end : ℕ → Image → ℕ
image_end depth i = i.base + (i.height - 1) * i.line + line_bytes depth i.width

-- a value for each rotation: 0, 90, 180 and, for any other number, 270 degrees counter-clockwise
module _ {A : Type 0} where
  abbrev pub by_rotation : ℕ → A → A → A → A → A
  by_rotation rotation a b c d = cond (eqb rotation 0) a (cond (eqb rotation 1) b (cond (eqb rotation 2) c d))

-- 01's table "Start register (dwords)", with 02's cells at 180 and 270 degrees
unfoldable pub start_of : ℕ → ℕ → Image → ℕ
start_of rotation depth i =
    by_rotation rotation
    (i.base / 4)
    ((i.base + i.width * depth / 8) / 4 - 1)
    ((i.base + (i.height - 1) * i.line + i.width * depth / 8) / 4 - 1)
    ((i.base + (i.height - 1) * i.line) / 4)

-- line offset register: the line length ÷ 4
abbrev pub offset_of : Image → ℕ
offset_of i = i.line / 4
