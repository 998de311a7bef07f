-- The fields of the six screen registers (01, "Blits", Model: start to FFFFh, offsets to 3FFh, X and Y bits 9-0 and 25-16).
use Rattle.std.specs.Prelude.{ℕ, ◌/◌, ◌%◌, Bool, ◌&&◌, leb}
use Rattle.screen.specs.declared.Origin.{Origin}
use Rattle.screen.specs.declared.ScreenValues.{ScreenValues}

-- a number up to a last one
abbrev pub up_to : ℕ → ℕ → Bool
up_to last v = leb v last

-- bits 9-0 and 25-16
abbrev pub edges_fit : ℕ → Bool
edges_fit v = leb (v % 65536) 0x3FF && leb (v / 65536) 0x3FF

abbrev pub origin_fits : Origin → Bool
origin_fits o = up_to 0xFFFF o.start && up_to 0x3FF o.offset

-- each of the six values is in its field
unfoldable pub values_fit : ScreenValues → Bool
values_fit v = origin_fits v.main && (origin_fits v.window && (edges_fit v.x && edges_fit v.y))
