-- The rows of a pattern: as they are read, and the pixel that they make in each column of each line.
use mathlib.Core.Path.{◌≡◌, refl, sym, ap, ap₂, ◌∙◌}
use mathlib.Core.List.{List, []}
use Prim.Native.Nat.{ℕ, zero, suc, ◌+◌, ◌*◌, ◌%◌, ◌^◌, ◌<◌}
use native.Mathlib.Nat.{add-mul, mod-add-mod, mod-eq_of_lt, mod-lt, mul_assoc}
use native.Mathlib.Omega.{arith}
use lib.Dec.{lit<}
use lib.ListN.{length, get_or}
use lib.Seq.{ext_get_or}
use Rattle.record.proofs.Lists.{get_d_tabulate, filled_all}
use Rattle.pixel.specs.Pixel.{get_pixel}
use Rattle.pixel.proofs.Pixels.{get_lt}
use Rattle.blit.specs.Job.{pattern_pixel}
use Rattle.blit_pattern.specs.Pattern.{row_at, rows_from, pattern_rows, rows_pixel}

-- ---- as they are read

row_pixel : (bytes : ℕ) (memory : List ℕ) (a u : ℕ) → u < 8 → get_or (row_at bytes memory a) u 0 ≡ get_pixel bytes memory (a + u * bytes)
unfolding row_at
row_pixel bytes memory a u h = get_d_tabulate 8 (λ k. get_pixel bytes memory (a + k * bytes)) u h

module _ (bytes : ℕ) (memory : List ℕ) (a : ℕ) where
  -- eight pixels are a row
  pub row_read : (l : List ℕ) → length l ≡ 8 → ((k : ℕ) → k < 8 → get_or l k 0 ≡ get_pixel bytes memory (a + k * bytes)) → l ≡ row_at bytes memory a
  unfolding row_at
  row_read l len e = filled_all (λ u. get_pixel bytes memory (a + u * bytes)) 8 l len e

  length_rows : (v n : ℕ) → length (rows_from bytes memory a v n) ≡ n
  unfolding rows_from
  length_rows v zero = refl
  length_rows v (suc n) = ap suc (length_rows (suc v) n)

  row_of : (v n i : ℕ) → i < n → get_or (rows_from bytes memory a v n) i [] ≡ row_at bytes memory (a + (v + i) * (8 * bytes))
  unfolding rows_from
  row_of v zero i h = absurd (omega arith)
  row_of v (suc n) zero h = ap (λ (k : ℕ). row_at bytes memory (a + k * (8 * bytes))) (omega arith)
  row_of v (suc n) (suc i) h = row_of (suc v) n i (omega arith) ∙ ap (λ (k : ℕ). row_at bytes memory (a + k * (8 * bytes))) (omega arith)

  first_rows : (i : ℕ) → i < 8 → get_or (pattern_rows bytes memory a) i [] ≡ row_at bytes memory (a + i * (8 * bytes))
  first_rows i h = row_of 0 8 i h ∙ ap (λ (k : ℕ). row_at bytes memory (a + k * (8 * bytes))) (omega arith)

  -- eight rows are the pattern's
  pub rows_read : (l : List (List ℕ)) → length l ≡ 8 → ((k : ℕ) → k < 8 → get_or l k [] ≡ row_at bytes memory (a + k * (8 * bytes)))
      → l ≡ pattern_rows bytes memory a
  rows_read l len e = ext_get_or [] l _ (len ∙ sym (length_rows 0 8)) (λ i h. e i (omega arith) ∙ sym (first_rows i (omega arith)))

  -- the pixel that they make in column u of line v is the pattern's
  pub rows_pixel_lem : (u v : ℕ) → ((k : ℕ) → get_or memory k 0 < 256) → rows_pixel bytes (pattern_rows bytes memory a) u v ≡ pattern_pixel bytes memory a u v
  unfolding rows_pixel pattern_pixel
  rows_pixel_lem u v small =
      let p : ℕ = u % 8 in
      let q : ℕ = v % 8 in
      let place : a + q * (8 * bytes) + p * bytes ≡ a + (q * 8 + p) * bytes = omega (arith, add-mul (q * 8) p bytes, mul_assoc q 8 bytes) in
      ap (λ (x : ℕ). x % 256 ^ bytes)
      (ap (λ (r : List ℕ). get_or r p 0) (first_rows q (mod-lt v (lit< tt)))
      ∙ row_pixel bytes memory (a + q * (8 * bytes)) p (mod-lt u (lit< tt))
      ∙ ap (get_pixel bytes memory) place)
      ∙ mod-eq_of_lt (get_lt bytes memory (a + (q * 8 + p) * bytes) small)

-- a column and a line to start from may be given by what is left over of eight
pub rows_from_lem : (bytes : ℕ) (rows : List (List ℕ)) (x y i k : ℕ) → rows_pixel bytes rows (x % 8 + i) (y % 8 + k) ≡ rows_pixel bytes rows (x + i) (y + k)
unfolding rows_pixel
rows_from_lem bytes rows x y i k = ap₂ (λ (u v : ℕ). get_or (get_or rows v []) u 0 % 256 ^ bytes) (mod-add-mod x 8 i) (mod-add-mod y 8 k)
