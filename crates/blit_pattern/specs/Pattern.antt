-- The rows of a pattern, as the functions of a pattern fill hold them. Only contracts of functions cite it, and nothing of 01 or 02 does.
use Rattle.std.specs.Prelude.{ℕ, zero, suc, ◌+◌, ◌*◌, ◌%◌, ◌^◌, max, List, [], ◌∷◌, ◌++◌, get_or, take, drop}
use Rattle.record.specs.Lists.{tabulate}
use Rattle.pixel.specs.Pixel.{get_pixel}
use Rattle.blit.specs.Line.{straight_line}

-- eight pixels from address a on
unfoldable pub row_at : ℕ → List ℕ → ℕ → List ℕ
row_at bytes memory a = tabulate 8 (λ u. get_pixel bytes memory (a + u * bytes))

-- n rows from row v on of a pattern at address a
unfoldable pub rows_from : ℕ → List ℕ → ℕ → ℕ → ℕ → List (List ℕ)
rows_from bytes memory a v zero = []
rows_from bytes memory a v (suc n) = row_at bytes memory (a + v * (8 * bytes)) ∷ rows_from bytes memory a (suc v) n

-- all its rows
abbrev pub pattern_rows : ℕ → List ℕ → ℕ → List (List ℕ)
pattern_rows bytes memory a = rows_from bytes memory a 0 8

-- the pixel that rows make in column u of line v, cut to the bytes of a pixel
unfoldable pub rows_pixel : ℕ → List (List ℕ) → ℕ → ℕ → ℕ
rows_pixel bytes rows u v = get_or (get_or rows (v % 8) []) (u % 8) 0 % 256 ^ bytes

-- the first n of lines side by side, each of 2048 bytes: line k repeats row y + k from column x on, over at least sixteen pixels
unfoldable pub tiled_lines : ℕ → List (List ℕ) → ℕ → ℕ → ℕ → ℕ → List ℕ → List ℕ
tiled_lines bytes rows x y width zero old = old
tiled_lines bytes rows x y width (suc k) old =
    let m : List ℕ = tiled_lines bytes rows x y width k old in
    let line : List ℕ = straight_line bytes (λ s d. s) (λ i. get_or (get_or rows ((y + k) % 8) []) ((x + i) % 8) 0) (max 16 width) (take 2048 (drop (k * 2048) m)) in
    take (k * 2048) m ++ (line ++ drop 2048 (drop (k * 2048) m))
