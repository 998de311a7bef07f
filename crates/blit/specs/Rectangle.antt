-- The pointwise account of a blit: all pixels of the rectangle at once, from what was there before. It knows no direction.
use Rattle.std.specs.Prelude.{ℕ, ◌+◌, ◌-◌, ◌/◌, ◌%◌, List, Bool, ◌&&◌, cond, leb, ltb, length, get_or}
use Rattle.record.specs.Lists.{tabulate}
use Rattle.pixel.specs.Pixel.{get_pixel, byte_of}
use Rattle.blit.specs.Blit.{Blit, positive, offset, source_pixel}

-- an address in the rectangle is byte `lane` of the pixel in column `column` of line `row`
abbrev pub row : Blit → ℕ → ℕ
row b a = (a - b.destination) / b.line

abbrev pub column : Blit → ℕ → ℕ
column b a = (a - b.destination) % b.line / b.bytes

abbrev pub lane : Blit → ℕ → ℕ
lane b a = (a - b.destination) % b.line % b.bytes

unfoldable pub inside : Blit → ℕ → Bool
inside b a = leb b.destination a && (ltb (row b a) b.height && ltb (column b a) b.width)

-- what pixel i of line j becomes
unfoldable pub painted_pixel : Blit → List ℕ → ℕ → ℕ → ℕ
painted_pixel b old i j =
    b.combine (source_pixel b.bytes positive old b.source (offset b i j) i j) (get_pixel b.bytes old (b.destination + offset b i j))

-- the new byte at an address
unfoldable pub painted_byte : Blit → List ℕ → ℕ → ℕ
painted_byte b old a = cond (inside b a) (byte_of (lane b a) (painted_pixel b old (column b a) (row b a))) (get_or old a 0)

-- the memory after
unfoldable pub painted : Blit → List ℕ → List ℕ
painted b old = tabulate (length old) (painted_byte b old)
