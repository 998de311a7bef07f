-- The chip's walk (01, "Screen arithmetic"): where the chip looks for a panel point.
use Rattle.std.specs.Prelude.{ℕ, ◌+◌, ◌-◌, ◌*◌, ◌/◌, ◌%◌, Bool, cond, ◌&&◌, leb, eqb}
use Rattle.pixel.specs.Depth.{per_dword}
use Rattle.screen.specs.Image.{by_rotation}
use Rattle.screen.specs.Screen.{quarter}
use Rattle.screen.specs.declared.Origin.{Origin}
use Rattle.screen.specs.declared.ScreenValues.{ScreenValues}
use Rattle.view.specs.declared.Place.{Place}

-- from an image's start dword and line offset, k pixels to a dword, to point (p, q). The dword is up − down, and may be below 0.
unfoldable pub walk : ℕ → ℕ → Origin → ℕ → ℕ → Place
walk rotation k at p q =
    by_rotation rotation
    (record { up = at.start + q * at.offset + p / k; down = 0; pixel = p % k })
    (record { up = at.start + p * at.offset; down = q / k; pixel = k - 1 - q % k })
    (record { up = at.start; down = q * at.offset + p / k; pixel = k - 1 - p % k })
    (record { up = at.start + q / k; down = p * at.offset; pixel = q % k })

-- a position register's start, bits 9-0, and end, bits 25-16
abbrev pub start_edge : ℕ → ℕ
start_edge v = v % 1024

abbrev pub end_edge : ℕ → ℕ
end_edge v = v / 65536 % 1024

-- between start and end, both included
abbrev pub between : ℕ → ℕ → Bool
between v t = leb (start_edge v) t && leb t (end_edge v)

-- the chip takes point (p, q) for one of the window's, by the position registers x and y
unfoldable pub in_window_by : ℕ → ℕ → ℕ → ℕ → ℕ → ℕ → Bool
in_window_by rotation k x y p q =
    cond (quarter rotation)
    (between x p && between y (q / k))
    (between x (p / k) && between y q)

-- the point that the window's walk counts from: (X start × k, Y start) at 0 and 180, (X start, Y start × k) at 90 and 270
unfoldable pub corner_p : ℕ → ℕ → ℕ → ℕ
corner_p rotation k x = cond (quarter rotation) (start_edge x) (start_edge x * k)

unfoldable pub corner_q : ℕ → ℕ → ℕ → ℕ
corner_q rotation k y = cond (quarter rotation) (start_edge y * k) (start_edge y)

-- where the chip looks for panel point (p, q): in the window if the flag is set and the point is in it, else in the main image
unfoldable pub place_of : ℕ → ℕ → ℕ → ScreenValues → ℕ → ℕ → Place
place_of depth rotation flag values p q =
    let k = per_dword depth in
    cond (eqb flag 1 && in_window_by rotation k values.x values.y p q)
    (walk rotation k values.window (p - corner_p rotation k values.x) (q - corner_q rotation k values.y))
    (walk rotation k values.main p q)
