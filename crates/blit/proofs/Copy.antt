-- Laws of bytes that are copied one by one, and of the pixels that they make.
use mathlib.Core.Path.{◌≡◌, refl, sym, ap, ap₂, ◌∙◌}
use mathlib.Core.Logic.{⊎_elim}
use mathlib.Core.List.{List}
use Prim.Native.Nat.{ℕ, zero, suc, ◌+◌, ◌*◌, ◌/◌, ◌%◌, ◌≤◌, ◌<◌}
use native.Mathlib.Nat.{add-suc, add-zero, suc-mul, zero-add, zero-mul}
use native.Mathlib.Omega.{arith}
use lib.ListN.{length, get_or, set, length-set}
use lib.Seq.{get_or-set_other, get_or-set_same}
use Rattle.pixel.specs.Pixel.{get_pixel, put_pixel}
use Rattle.blit.specs.Blit.{pixels}
use Rattle.blit.proofs.Runs.{below_or_not}
use Rattle.blit.specs.Line.{straight_line, copied}

-- ---- byte after byte

module _ (from : List ℕ) (a : ℕ) where
  length_copied : (n : ℕ) (old : List ℕ) → length (copied from a n old) ≡ length old
  unfolding copied
  length_copied zero old = refl
  length_copied (suc n) old = length-set (copied from a n old) n (get_or from (a + n) 0) ∙ length_copied n old

  pub copied_none : (old : List ℕ) → old ≡ copied from a 0 old
  unfolding copied
  copied_none old = refl

  pub copied_more : (n : ℕ) (old m : List ℕ) → m ≡ copied from a n old → set m n (get_or from (a + n) 0) ≡ copied from a (suc n) old
  unfolding copied
  copied_more n old m e = ap (λ (x : List ℕ). set x n (get_or from (a + n) 0)) e

  pub copied_end : (n size : ℕ) (old m : List ℕ) → m ≡ copied from a n old → n ≡ size → m ≡ copied from a size old
  copied_end n size old m e h = e ∙ ap (λ (k : ℕ). copied from a k old) h

  copied_byte : (n : ℕ) (old : List ℕ) (k : ℕ) → k < n → n ≤ length old → get_or (copied from a n old) k 0 ≡ get_or from (a + k) 0
  unfolding copied
  copied_byte zero old k h room = absurd (omega arith)
  copied_byte (suc n) old k h room =
      ⊎_elim
      (λ p. get_or-set_other (copied from a n old) n k (get_or from (a + n) 0) 0 (omega arith) ∙ copied_byte n old k p (omega arith))
      (λ p.
      let e : k ≡ n = omega arith in
      rw e (get_or-set_same (copied from a n old) n _ 0 (omega (arith, length_copied n old))))
      (below_or_not k n)

  -- a pixel of the copy is the pixel that was copied
  pub copied_pixel : (bytes n : ℕ) (old : List ℕ) (k : ℕ) → k + bytes ≤ n → n ≤ length old
      → get_pixel bytes (copied from a n old) k ≡ get_pixel bytes from (a + k)
  unfolding get_pixel
  copied_pixel zero n old k h room = refl
  copied_pixel (suc bytes) n old k h room =
      ap₂ (λ (x y : ℕ). x + 256 * y) (copied_byte n old k (omega arith) room)
      (copied_pixel bytes n old (suc k) (omega arith) room ∙ ap (get_pixel bytes from) (add-suc a k))

-- ---- pixels side by side

module _ (source : List ℕ) (small : (k : ℕ) → get_or source k 0 < 256) where
  -- the source's own pixel, stored after the bytes before it
  put_copied : (bytes n : ℕ) (line : List ℕ) → put_pixel bytes (copied source 0 n line) n (get_pixel bytes source n) ≡ copied source 0 (n + bytes) line
  unfolding put_pixel get_pixel copied
  put_copied zero n line = ap (λ (k : ℕ). copied source 0 k line) (sym (add-zero n))
  put_copied (suc bytes) n line =
      let v : ℕ = get_or source n 0 + 256 * get_pixel bytes source (suc n) in
      let low : v % 256 ≡ get_or source (0 + n) 0 = rw (zero-add n) (omega (arith, small n)) in
      let more : suc n + bytes ≡ n + suc bytes = omega arith in
      let high : v / 256 ≡ get_pixel bytes source (suc n) = omega (arith, small n) in
      ap₂ (λ (x y : ℕ). put_pixel bytes (set (copied source 0 n line) n x) (suc n) y) low high
      ∙ put_copied bytes (suc n) line
      ∙ ap (λ (k : ℕ). copied source 0 k line) more

  -- storing a line's pixels is copying its bytes
  pub straight_copied : (bytes n : ℕ) (line : List ℕ)
      → straight_line bytes (λ s d. s) (λ i. get_pixel bytes source (i * bytes)) n line ≡ copied source 0 (n * bytes) line
  unfolding straight_line pixels copied
  straight_copied bytes zero line = sym (ap (λ (k : ℕ). copied source 0 k line) (zero-mul bytes))
  straight_copied bytes (suc n) line =
      ap (λ (x : List ℕ). put_pixel bytes x (n * bytes) (get_pixel bytes source (n * bytes))) (straight_copied bytes n line)
      ∙ put_copied bytes (n * bytes) line
      ∙ ap (λ (k : ℕ). copied source 0 k line) (sym (suc-mul n bytes))
