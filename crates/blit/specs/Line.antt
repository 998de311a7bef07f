-- What the line functions promise: the pixels of one destination line, lent alone, and of a source line. Nothing of 01 cites it.
use Rattle.std.specs.Prelude.{ℕ, zero, suc, ◌+◌, ◌-◌, ◌*◌, ◌≤◌, ◌<◌, ◌≡◌, List, Bool, true, false, cond, ltb, eqb, length, get_or, set}
use Rattle.pixel.specs.Pixel.{get_pixel}
use Rattle.blit.specs.Blit.{pixels}
use Rattle.blit.specs.Job.{mix_of}
use Rattle.blit.specs.declared.Mix.{Mix}
use Rattle.blit.specs.declared.Mix.TheVariants.{Store, Raster, Key}

-- which pixel of the line, counted from its low end, is drawn as the n-th
unfoldable pub rank : Bool → ℕ → ℕ → ℕ
rank true width n = width - 1 - n
rank false width n = n

-- and where it stands
abbrev pub spot : Bool → ℕ → ℕ → ℕ → ℕ
spot down bytes width n = rank down width n * bytes

-- the source of the n-th drawn pixel: the source line's pixel at its place, or, from the lag on, the line's own pixel that many
-- pixels back
unfoldable pub lagged : Bool → ℕ → ℕ → List ℕ → ℕ → List ℕ → ℕ → ℕ
lagged down bytes width source lag line n =
    cond (ltb n lag) (get_pixel bytes source (spot down bytes width n)) (get_pixel bytes line (spot down bytes width (n - lag)))

-- the first n pixels of the line, each what its source and the line's pixel make together
unfoldable pub work_line : Bool → ℕ → ℕ → Mix → List ℕ → ℕ → ℕ → List ℕ → List ℕ
work_line down bytes width mix source lag n line =
    pixels bytes (mix_of mix bytes) (spot down bytes width) (lagged down bytes width source lag) n line

-- the source pixel is what is stored: under raster code Ch too
abbrev pub copies : Mix → Bool
copies Store = true
copies (Raster c) = eqb c 0xC
copies (Key k) = false

-- n pixels side by side, pixel i from f i
unfoldable pub straight_line : ℕ → (ℕ → ℕ → ℕ) → (ℕ → ℕ) → ℕ → List ℕ → List ℕ
straight_line bytes combine f n line = pixels bytes combine (λ i. i * bytes) (λ m i. f i) n line

-- old with its first n bytes from those of `from` from address a on
unfoldable pub copied : List ℕ → ℕ → ℕ → List ℕ → List ℕ
copied from a zero old = old
copied from a (suc n) old = set (copied from a n old) n (get_or from (a + n) 0)

-- a lent line of so many pixels
pub record LineOk (bytes width : ℕ) (line : List ℕ) : Type 0 where
  pub some_bytes : 0 < bytes
  pub few_bytes : bytes ≤ 2
  pub few : width ≤ 1024
  pub size : length line ≡ width * bytes
