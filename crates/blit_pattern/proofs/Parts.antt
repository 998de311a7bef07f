-- Lines side by side in one list, each of 2048 bytes.
use mathlib.Core.Path.{◌≡◌, refl, sym, ap, ap₂, ◌∙◌}
use mathlib.Core.Logic.{⊎_elim}
use mathlib.Core.List.{List, [], ◌++◌}
use Prim.Native.Nat.{ℕ, zero, suc, ◌+◌, ◌*◌, ◌%◌, ◌^◌, ◌≤◌, ◌<◌, max}
use native.Mathlib.Nat.{mod-lt, mul-le-mul}
use native.Mathlib.Omega.{arith}
use borrow.Rule.Slice.PartMut.{put_same}
use lib.Dec.{lit<}
use lib.ListN.{length, get_or, take, drop, length-drop, length-take, length-append, get_or-append}
use Rattle.pixel.specs.Pixel.{get_pixel}
use Rattle.pixel.proofs.Pixels.{get_ext, get_part}
use Rattle.blit.specs.Line.{straight_line}
use Rattle.blit.proofs.Runs.{below_or_not, step_fits, length_pixels}
use Rattle.blit_pattern.specs.Pattern.{rows_pixel, tiled_lines}
use Rattle.blit_pattern.proofs.Tiles.{stored_pixel_lem}

-- a pixel of the first of two lists
get_front : (bytes : ℕ) (l q : List ℕ) (a : ℕ) → a + bytes ≤ length l → get_pixel bytes (l ++ q) a ≡ get_pixel bytes l a
get_front bytes l q a h = get_ext bytes (l ++ q) l a (λ x p r. get_or-append l q 0 x (omega arith))

-- a pixel before a part is as it was, whatever stands there
before_part : (bytes d k : ℕ) (m l : List ℕ) (a : ℕ) → d ≤ length m → a + bytes ≤ d
    → get_pixel bytes (take d m ++ (l ++ drop k (drop d m))) a ≡ get_pixel bytes m a
before_part bytes d k m l a room fit =
    let len : length (take d m) ≡ d = simp length-take (omega arith) in
    get_front bytes (take d m) (l ++ drop k (drop d m)) a (omega arith)
    ∙ sym (get_front bytes (take d m) (take k (drop d m) ++ drop k (drop d m)) a (omega arith))
    ∙ ap (λ (x : List ℕ). get_pixel bytes x a) (put_same d k m)

-- a pixel of a part, and of the whole
pub part_pixel : (bytes d k : ℕ) (m : List ℕ) (a : ℕ) → d + k ≤ length m → a + bytes ≤ k
    → get_pixel bytes (take k (drop d m)) a ≡ get_pixel bytes m (d + a)
part_pixel bytes d k m a room fit =
    let at : length (take d m) ≡ d = simp length-take (omega arith) in
    let len : length (take k (drop d m)) ≡ k = simp (length-take, length-drop) (omega arith) in
    let here : length (take d m) + a ≡ d + a = omega arith in
    sym (get_part bytes (take d m) (take k (drop d m)) (drop k (drop d m)) a (omega arith))
    ∙ ap₂ (get_pixel bytes) (put_same d k m) here

module _ (bytes : ℕ) (rows : List (List ℕ)) (x y width : ℕ) where
  -- n of the lines
  abbrev lines : ℕ → List ℕ → List ℕ
  lines n old = tiled_lines bytes rows x y width n old

  -- line k over what stood there
  abbrev line : ℕ → List ℕ → List ℕ
  line k old = straight_line bytes (λ s d. s) (λ i. get_or (get_or rows ((y + k) % 8) []) ((x + i) % 8) 0) (max 16 width) old

  pub tiles_none : (old : List ℕ) → old ≡ lines 0 old
  unfolding tiled_lines
  tiles_none old = refl

  next : (k : ℕ) (old : List ℕ)
      → take (k * 2048) (lines k old) ++ (line k (take 2048 (drop (k * 2048) (lines k old))) ++ drop 2048 (drop (k * 2048) (lines k old))) ≡ lines (suc k) old
  unfolding tiled_lines
  next k old = refl

  pub tiles_more : (k size : ℕ) (old m l : List ℕ) → m ≡ lines k old → size ≡ 2048 → l ≡ line k (take size (drop (k * 2048) m))
      → take (k * 2048) m ++ (l ++ drop size (drop (k * 2048) m)) ≡ lines (suc k) old
  tiles_more k size old m l e es el =
      ap (λ (z : List ℕ). take (k * 2048) m ++ (z ++ drop size (drop (k * 2048) m))) el
      ∙ ap₂ (λ (z : List ℕ) (s : ℕ). take (k * 2048) z ++ (line k (take s (drop (k * 2048) z)) ++ drop s (drop (k * 2048) z))) e es
      ∙ next k old

  length_line : (k : ℕ) (old : List ℕ) → length (line k old) ≡ length old
  unfolding straight_line
  length_line k old = length_pixels bytes (λ s d. s) (λ i. i * bytes) (λ m i. get_or (get_or rows ((y + k) % 8) []) ((x + i) % 8) 0) (max 16 width) old

  length_lines : (n : ℕ) (old : List ℕ) → n * 2048 ≤ length old → length (lines n old) ≡ length old
  unfolding tiled_lines
  length_lines zero old room = refl
  length_lines (suc n) old room =
      let m : List ℕ = lines n old in
      let ih : length m ≡ length old = length_lines n old (omega arith) in
      simp (length-append, length_line, length-take, length-drop) (omega arith)

  -- pixel i of line k
  tiled_pixel : bytes ≤ 2 → width ≤ 1024 → (n k i : ℕ) (old : List ℕ) → k < n → i < width → n * 2048 ≤ length old
      → get_pixel bytes (lines n old) (k * 2048 + i * bytes) ≡ rows_pixel bytes rows (x + i) (y + k)
  unfolding tiled_lines rows_pixel
  tiled_pixel few wide zero k i old hk hi room = absurd (omega arith)
  tiled_pixel few wide (suc n) k i old hk hi room =
      let m : List ℕ = lines n old in
      let len : length m ≡ length old = length_lines n old (omega arith) in
      let part : List ℕ = take 2048 (drop (n * 2048) m) in
      let cut : length part ≡ 2048 = simp (length-take, length-drop) (omega arith) in
      let most : max 16 width ≤ 1024 = omega arith in
      let fit : i * bytes + bytes ≤ 2048 = omega (arith, step_fits bytes i width hi, mul-le-mul wide few) in
      ⊎_elim
      (λ p. before_part bytes (n * 2048) 2048 m (line n part) (k * 2048 + i * bytes) (omega arith) (omega arith) ∙ tiled_pixel few wide n k i old p hi (omega arith))
      (λ p.
      let e : k ≡ n = omega arith in
      let at : length (take (n * 2048) m) ≡ n * 2048 = simp length-take (omega arith) in
      let here : k * 2048 + i * bytes ≡ length (take (n * 2048) m) + i * bytes = omega arith in
      ap (get_pixel bytes (take (n * 2048) m ++ (line n part ++ drop 2048 (drop (n * 2048) m)))) here
      ∙ get_part bytes (take (n * 2048) m) (line n part) (drop 2048 (drop (n * 2048) m)) (i * bytes) (omega (arith, length_line n part))
      ∙ stored_pixel_lem bytes (λ j. get_or (get_or rows ((y + n) % 8) []) ((x + j) % 8) 0) part (max 16 width) i (omega arith) (omega (arith, mul-le-mul most few))
      ∙ ap (λ (j : ℕ). rows_pixel bytes rows (x + i) (y + j)) (sym e))
      (below_or_not k n)

  -- eight lines serve all lines: the rows are the same every eight
  pub lines_pixel_lem : bytes ≤ 2 → width ≤ 1024 → (i j : ℕ) (old : List ℕ) → i < width → 16384 ≤ length old
      → get_pixel bytes (lines 8 old) (j % 8 * 2048 + i * bytes) ≡ rows_pixel bytes rows (x + i) (y + j)
  unfolding rows_pixel
  lines_pixel_lem few wide i j old hi room =
      tiled_pixel few wide 8 (j % 8) i old (mod-lt j (lit< tt)) hi (omega arith)
      ∙ ap (λ (v : ℕ). get_or (get_or rows v []) ((x + i) % 8) 0 % 256 ^ bytes) (omega arith)
