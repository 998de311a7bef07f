-- Lines as long as the shown width: 01's own start table (01, "Screen arithmetic"), and what a record whose line lengths are 0 means.
use Rattle.std.specs.Prelude.{ℕ, ◌+◌, ◌-◌, ◌*◌, ◌/◌, ◌<◌, ◌≡◌, true, cond, List, [], ◌∷◌, eqb}
use Rattle.record.specs.Checks.{Row, first_of}
use Rattle.pixel.specs.Depth.{is_depth}
use Rattle.screen.specs.Image.{line_bytes, by_rotation, start_of}
use Rattle.screen.specs.Screen.{whole_dwords, main_image, window_image, fields_of, field_rows, screen_rows}
use Rattle.screen.specs.Values.{values_of}
use Rattle.screen.specs.declared.Image.{Image}
use Rattle.screen.specs.declared.Screen.{Screen}

-- 01's table "Start register (dwords)", all four cells
unfoldable pub shown_start : ℕ → ℕ → Image → ℕ
shown_start rotation depth i =
    by_rotation rotation
    (i.base / 4)
    ((i.base + i.width * depth / 8) / 4 - 1)
    ((i.base + i.width * i.height * depth / 8) / 4 - 1)
    ((i.base + (i.height - 1) * i.width * depth / 8) / 4)

-- a table without its rows of number n
unfoldable pub without : ℕ → List Row → List Row
without n [] = []
without n (r ∷ rs) = cond (eqb r.number n) (without n rs) (r ∷ without n rs)

-- both line lengths are 0
pub record NoLengths (s : Screen) : Type 0 where
  pub main : s.line ≡ 0
  pub window : s.window.line ≡ 0

-- an image's line length and start are 01's
pub record As01 (rotation depth start : ℕ) (i : Image) : Type 0 where
  pub line : i.line ≡ line_bytes depth i.width
  pub start_is : start ≡ shown_start rotation depth i

-- 02's starts are 01's where lines are as long as the shown width, and that a multiple of 32 ÷ depth. So a record whose line lengths are 0
-- means what 01 says: it is refused as by 01's rows alone, and accepted its images have 01's line lengths and starts.
pub record ShownWidths (m : ℕ) : Type 0 where
  pub start : (rotation depth : ℕ) (i : Image) → is_depth depth ≡ true → whole_dwords depth i.width ≡ true → 0 < i.height
      → i.line ≡ line_bytes depth i.width → start_of rotation depth i ≡ shown_start rotation depth i
  pub refused : (b : List ℕ) → NoLengths (fields_of b) → first_of (screen_rows m b) ≡ first_of (without 26 (screen_rows m b))
  pub main : (s : Screen) → NoLengths s → first_of (field_rows m s) ≡ 0
      → As01 s.rotation s.depth (values_of s).main.start (main_image s)
  pub window : (s : Screen) → NoLengths s → first_of (field_rows m s) ≡ 0 → s.flag ≡ 1
      → As01 s.rotation s.depth (values_of s).window.start (window_image s)
