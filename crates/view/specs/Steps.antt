-- The chip's walk along a panel line, by steps (02, i), for inner contracts alone: which columns are the window's, and how far apart in memory the
-- pixels of neighbouring columns stand. No promise of an entry point cites it.
use Rattle.std.specs.Prelude.{ℕ, ◌+◌, ◌-◌, ◌*◌, ◌/◌, min, max, Bool, cond, ◌&&◌, ltb, eqb}
use Rattle.pixel.specs.Depth.{per_dword}
use Rattle.screen.specs.Screen.{quarter}
use Rattle.screen.specs.declared.ScreenValues.{ScreenValues}
use Rattle.view.specs.Walk.{start_edge, end_edge, between, in_window_by, place_of}
use Rattle.view.specs.declared.Place.{Place}
use Rattle.view.specs.declared.Columns.{Columns}
use Rattle.view.specs.declared.Steps.{Steps}

-- the chip takes panel point (p, q) for one of the window's
abbrev pub is_windows : ℕ → ℕ → ℕ → ScreenValues → ℕ → ℕ → Bool
is_windows depth rotation flag values p q = eqb flag 1 && in_window_by rotation (per_dword depth) values.x values.y p q

-- panel line q meets the window's lines, by the position register y
abbrev pub meets_window : ℕ → ℕ → ℕ → ℕ → ℕ → Bool
meets_window rotation flag k y q = eqb flag 1 && between y (cond (quarter rotation) (q / k) q)

-- panel columns that the position register x counts as one: k at 0 and 180 degrees
abbrev pub columns_per : ℕ → ℕ → ℕ
columns_per rotation k = cond (quarter rotation) 1 k

-- the columns of panel line q, of so many, that are the window's; none, from column 0 on, where the line does not meet it
unfoldable pub window_columns : ℕ → ℕ → ℕ → ScreenValues → ℕ → ℕ → Columns
window_columns depth rotation flag values width q =
    let per = columns_per rotation (per_dword depth) in
    let from = min width (start_edge values.x * per) in
    let to = min width ((end_edge values.x + 1) * per) in
    cond (meets_window rotation flag (per_dword depth) values.y q)
    (record { from = from; to = max from to })
    (record { from = 0; to = 0 })

-- the steps of a walk that has come to a place, along an image with a line offset: a pixel at 0 and 180 degrees, a line of the image at 90 and
-- 270; back at 180 and 270
unfoldable pub steps_at : ℕ → ℕ → Place → ℕ → Steps
steps_at depth rotation w offset =
    record {
      ahead = 32 * w.up + depth * w.pixel;
      behind = 32 * w.down;
      step = cond (quarter rotation) (32 * offset) depth;
      back = ltb 1 rotation;
    }

-- the steps from panel point (p, q) on
unfoldable pub steps_from : ℕ → ℕ → ℕ → ScreenValues → ℕ → ℕ → Steps
steps_from depth rotation flag values p q =
    steps_at depth rotation (place_of depth rotation flag values p q)
    (cond (is_windows depth rotation flag values p q) values.window.offset values.main.offset)

-- after j steps
abbrev pub ahead_after : Steps → ℕ → ℕ
ahead_after s j = cond s.back s.ahead (s.ahead + j * s.step)

abbrev pub behind_after : Steps → ℕ → ℕ
behind_after s j = cond s.back (s.behind + j * s.step) s.behind

-- the bits of memory before the pixel there
abbrev pub bits_after : Steps → ℕ → ℕ
bits_after s j = ahead_after s j - behind_after s j
