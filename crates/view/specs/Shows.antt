-- Demand 2: "each panel point shows the one image pixel that the rotation names, inside memory, the small window over the main".
use Rattle.std.specs.Prelude.{ℕ, ◌+◌, ◌-◌, ◌*◌, ◌/◌, ◌%◌, ◌≤◌, ◌<◌, ◌≡◌}
use Rattle.pixel.specs.Depth.{per_dword}
use Rattle.screen.specs.declared.Screen.{Screen}
use Rattle.view.specs.View.{of_shown, bit_address}
use Rattle.view.specs.declared.Place.{Place}

-- the bits of memory before the image pixel that belongs at panel point (p, q)
unfoldable pub shown_bit : Screen → ℕ → ℕ → ℕ
shown_bit s p q = of_shown (bit_address s.depth) s p q

-- the walk came to the pixel that has so many bits of memory before it, in a memory of m bytes
pub record Shows (m depth : ℕ) (w : Place) (bit : ℕ) : Type 0 where
  pub above : w.down ≤ w.up
  pub dword : w.up - w.down ≡ bit / 32
  pub pixel : w.pixel < per_dword depth
  pub lane : w.pixel * depth ≡ bit % 32
  pub inside : 4 * (w.up - w.down) + 4 ≤ m
