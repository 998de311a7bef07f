-- The view and the panel (01, "Screen arithmetic": which view pixel belongs at panel point (p, q)).
use Rattle.std.specs.Prelude.{ℕ, ◌+◌, ◌-◌, ◌*◌, Bool, ◌&&◌, cond, leb, ltb}
use Rattle.screen.specs.Image.{by_rotation}
use Rattle.screen.specs.Screen.{windowed, main_image, window_image}
use Rattle.screen.specs.declared.Image.{Image}
use Rattle.screen.specs.declared.Screen.{Screen}

-- a pixel of an image: column and line
pub record Pixel : Type 0 where
  pub u : ℕ
  pub v : ℕ

abbrev pub pixel_at : ℕ → ℕ → Pixel
pixel_at u v = record { u = u; v = v }

-- the view pixel that belongs at point (p, q) of a panel of W by H
unfoldable pub view_pixel : ℕ → ℕ → ℕ → ℕ → ℕ → Pixel
view_pixel rotation W H p q =
    by_rotation rotation
    (pixel_at p q)
    (pixel_at (H - 1 - q) p)
    (pixel_at (W - 1 - p) (H - 1 - q))
    (pixel_at q (W - 1 - p))

-- t is one of n numbers from a on
abbrev pub among : ℕ → ℕ → ℕ → Bool
among a n t = leb a t && ltb t (a + n)

-- the flag is 1 and a view pixel lies in the window
unfoldable pub in_window : Screen → Pixel → Bool
in_window s x = windowed s && (among s.window.x s.window.width x.u && among s.window.y s.window.height x.v)

-- the window's pixel at a view pixel: (u − x, v − y)
unfoldable pub window_pixel : Screen → Pixel → Pixel
window_pixel s x = pixel_at (x.u - s.window.x) (x.v - s.window.y)

-- what f says of the image pixel that belongs at panel point (p, q): of the window's where the view pixel lies in the window, else of
-- the main image's
abbrev pub of_shown : {A : Type 0} → (Image → Pixel → A) → Screen → ℕ → ℕ → A
of_shown f s p q =
    let x = view_pixel s.rotation s.width s.height p q in
    cond (in_window s x) (f (window_image s) (window_pixel s x)) (f (main_image s) x)

-- the bits of memory before an image's pixel
unfoldable pub bit_address : ℕ → Image → Pixel → ℕ
bit_address depth i x = 8 * (i.base + x.v * i.line) + x.u * depth
