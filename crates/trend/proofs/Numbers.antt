-- A pixel of the number below the columns: the host words of a glyph, and the writes of the digits.
use Prim.Native.Nat.{ℕ, zero, suc, ◌+◌, ◌-◌, ◌*◌, ◌/◌, ◌%◌, ◌^◌, ◌≤◌, ◌<◌}
use mathlib.Core.Path.{◌≡◌, refl, sym, ap, ap₂, ◌∙◌}
use mathlib.Core.Bool.{Bool, true, false, cond}
use mathlib.Core.Logic.{◌⊎◌, ⊎_elim}
use mathlib.Core.List.{List, [], ◌∷◌, ◌++◌}
use native.Mathlib.Omega.{arith}
use native.Mathlib.Nat.{mod-eq_of_lt}
use lib.ListN.{length, get_or, take, drop}
use lib.Seq.{take-append_seam, drop-append_seam}
use lib.Dec.{eqb}
use borrow.Author.Tests.{eqb-true, eqb-false}
use Rattle.record.specs.Lists.{AllBelow, tabulate}
use Rattle.record.proofs.Choice.{both_ways}
use Rattle.record.proofs.Lists.{get_d_tabulate, below_tabulate}
use Rattle.screen.specs.Screen.{main_image}
use Rattle.screen.specs.declared.Screen.{Screen}
use Rattle.command.specs.Command.{surface_of, line_words, words_taken}
use Rattle.unit.specs.Sheet.{host_pixel, sheet_command}
use Rattle.unit.proofs.Painted.{OneOrTwo}
use Rattle.unit.proofs.Drawable.{Surface}
use Rattle.unit.proofs.Listed.{length_sheet}
use Rattle.wear.specs.Font.{glyph_of, glyph_bit}
use Rattle.wear.specs.Strip.{column_height, glyph_size, glyph_at, writes, glyph_colour, glyph_word, glyph_words, digit_words}
use Rattle.wear.specs.declared.Ask.{Ask}
use Rattle.wear.proofs.Words.{glyph_words_count}
use Rattle.trend.proofs.Pixels.{pixel_new, glyph_new}
use Rattle.trend.proofs.Drawn.{drawn, below_append}
use Rattle.trend.proofs.Strips.{glyph_takes}
use Rattle.trend.proofs.Columns.{MissedBy, covered, not_covered, missed, shade}

-- ---- the host words of a glyph
narrow_line : (d : ℕ) → d ≡ 8 → line_words d glyph_size ≡ 4
unfolding line_words
narrow_line d e = rw e refl

wide_line : (d : ℕ) → d ≡ 16 → line_words d glyph_size ≡ 8
unfolding line_words
wide_line d e = rw e refl

module _ (a : Ask) (glyph : List ℕ) where
  pub colour_below : (limit : ℕ) → a.bar < limit → a.background < limit → (i j : ℕ) → glyph_colour a glyph i j < limit
  unfolding glyph_colour
  colour_below limit bar background i j = both_ways (λ (n : ℕ). n < limit) (eqb (glyph_bit glyph i j) 1) a.bar a.background (λ e. bar) (λ e. background)

  -- a word at depth 16 is a pixel, at depth 8 two
  word_wide : a.depth ≡ 16 → (k : ℕ) → glyph_word a glyph k ≡ glyph_colour a glyph (k % 8) (k / 8)
  unfolding glyph_word line_words
  word_wide e k = rw e refl

  word_narrow : a.depth ≡ 8 → (k : ℕ) → glyph_word a glyph k ≡ glyph_colour a glyph (2 * (k % 4)) (k / 4) + 256 * glyph_colour a glyph (2 * (k % 4) + 1) (k / 4)
  unfolding glyph_word line_words
  word_narrow e k = rw e refl

  narrow_below : a.depth ≡ 8 → a.bar < 256 → a.background < 256 → (k : ℕ) → glyph_word a glyph k < 65536
  narrow_below e bar background k =
      rw (word_narrow e k) (omega (arith, colour_below 256 bar background (2 * (k % 4)) (k / 4), colour_below 256 bar background (2 * (k % 4) + 1) (k / 4)))

  wide_below : a.depth ≡ 16 → a.bar < 65536 → a.background < 65536 → (k : ℕ) → glyph_word a glyph k < 65536
  wide_below e bar background k = rw (word_wide e k) (colour_below 65536 bar background (k % 8) (k / 8))

  words_below : (a.depth ≡ 8) ⊎ (a.depth ≡ 16) → a.bar < 65536 → a.background < 65536 → (a.depth ≡ 8 → a.bar ≤ 255) → (a.depth ≡ 8 → a.background ≤ 255) → AllBelow 65536 (glyph_words a glyph)
  unfolding glyph_words
  words_below depth bar background bar_low background_low =
      below_tabulate 65536 (omega arith) (glyph_size * line_words a.depth glyph_size) (glyph_word a glyph)
      (⊎_elim (λ e. narrow_below e (omega (arith, bar_low e)) (omega (arith, background_low e))) (λ e. wide_below e bar background) depth)

  -- ---- pixel (i, j) of them
  module _ (i j : ℕ) (hi : i < 8) (hj : j < 8) where
    abbrev at : ℕ
    at = j * 4 + i / 2

    narrow_word : a.depth ≡ 8 → get_or (glyph_words a glyph) at 0 ≡ glyph_colour a glyph (2 * (i / 2)) j + 256 * glyph_colour a glyph (2 * (i / 2) + 1) j
    unfolding glyph_words
    narrow_word e =
        let column : at % 4 ≡ i / 2 = omega arith in
        let line : at / 4 ≡ j = omega arith in
        let count : at < 8 * 4 = omega arith in
        ap (λ (n : ℕ). get_or (tabulate (8 * n) (glyph_word a glyph)) at 0) (narrow_line a.depth e) ∙ get_d_tabulate (8 * 4) (glyph_word a glyph) at count ∙ word_narrow e at ∙ ap₂ (λ (x y : ℕ). glyph_colour a glyph (2 * x) y + 256 * glyph_colour a glyph (2 * x + 1) y) column line

    narrow_pixel : a.depth ≡ 8 → a.bar ≤ 255 → a.background ≤ 255 → (t : Bool) → eqb (i % 2) 0 ≡ t
        → cond t (get_or (glyph_words a glyph) at 0 % 256) (get_or (glyph_words a glyph) at 0 / 256) ≡ glyph_colour a glyph i j
    narrow_pixel e bar background true q =
        let even : 2 * (i / 2) ≡ i = omega (arith, eqb-true (i % 2) 0 q) in
        let b = colour_below 256 (omega arith) (omega arith) (2 * (i / 2)) j in
        let low : (glyph_colour a glyph (2 * (i / 2)) j + 256 * glyph_colour a glyph (2 * (i / 2) + 1) j) % 256 ≡ glyph_colour a glyph (2 * (i / 2)) j = omega arith in
        ap (λ (n : ℕ). n % 256) (narrow_word e) ∙ low ∙ ap (λ (n : ℕ). glyph_colour a glyph n j) even
    narrow_pixel e bar background false q =
        let odd : 2 * (i / 2) + 1 ≡ i = omega (arith, eqb-false (i % 2) 0 q) in
        let b = colour_below 256 (omega arith) (omega arith) (2 * (i / 2)) j in
        let high : (glyph_colour a glyph (2 * (i / 2)) j + 256 * glyph_colour a glyph (2 * (i / 2) + 1) j) / 256 ≡ glyph_colour a glyph (2 * (i / 2) + 1) j = omega arith in
        ap (λ (n : ℕ). n / 256) (narrow_word e) ∙ high ∙ ap (λ (n : ℕ). glyph_colour a glyph n j) odd

    wide_pixel : a.depth ≡ 16 → get_or (glyph_words a glyph) (j * 8 + i) 0 ≡ glyph_colour a glyph i j
    unfolding glyph_words
    wide_pixel e =
        let column : (j * 8 + i) % 8 ≡ i = omega arith in
        let line : (j * 8 + i) / 8 ≡ j = omega arith in
        let count : j * 8 + i < 8 * 8 = omega arith in
        ap (λ (n : ℕ). get_or (tabulate (8 * n) (glyph_word a glyph)) (j * 8 + i) 0) (wide_line a.depth e) ∙ get_d_tabulate (8 * 8) (glyph_word a glyph) (j * 8 + i) count ∙ word_wide e (j * 8 + i) ∙ ap₂ (glyph_colour a glyph) column line

    pub host_glyph : (d : ℕ) → d ≡ a.depth → (a.depth ≡ 8) ⊎ (a.depth ≡ 16) → (a.depth ≡ 8 → a.bar ≤ 255) → (a.depth ≡ 8 → a.background ≤ 255)
        → host_pixel d glyph_size (glyph_words a glyph) i j ≡ glyph_colour a glyph i j
    unfolding host_pixel line_words
    host_glyph d same depth bar background =
        ⊎_elim
        (λ e.
        let eight : d ≡ 8 = same ∙ e in
        rw eight (narrow_pixel e (bar e) (background e) (eqb (i % 2) 0) refl))
        (λ e.
        let sixteen : d ≡ 16 = same ∙ e in
        rw sixteen (wide_pixel e))
        depth

pub digits_below : (a : Ask) → (a.depth ≡ 8) ⊎ (a.depth ≡ 16) → a.bar < 65536 → a.background < 65536 → (a.depth ≡ 8 → a.bar ≤ 255) → (a.depth ≡ 8 → a.background ≤ 255)
    → (site factory ds : List ℕ) → AllBelow 65536 (digit_words a site factory ds)
unfolding digit_words
digits_below a depth bar background bar_low background_low site factory [] = λ k. omega arith
digits_below a depth bar background bar_low background_low site factory (d ∷ ds) =
    below_append 65536 (glyph_words a (glyph_of site factory d)) (digit_words a site factory ds) (words_below a (glyph_of site factory d) depth bar background bar_low background_low)
    (digits_below a depth bar background bar_low background_low site factory ds)

-- ---- the writes
-- they miss a pixel that is not theirs
pub writes_miss : (u v : ℕ) (a : Ask) (i : ℕ) (ds : List ℕ)
    → (a.x + i * glyph_size ≤ u → u < a.x + (i + length ds) * glyph_size → a.y + column_height ≤ v → v < a.y + column_height + glyph_size → ⊥) → MissedBy u v (writes a i ds)
unfolding writes MissedBy
writes_miss u v a i [] out = tt
writes_miss u v a i (d ∷ ds) out = (
  refl,
  not_covered u v (glyph_at (a.x + i * glyph_size) (a.y + column_height)) (λ p q r t. out p (omega arith) r t),
  writes_miss u v a (suc i) ds (λ p q r t. out (omega arith) (omega arith) r t),
)

-- the colours of a pixel
pub power : (d B : ℕ) → d ≡ 8 * B → OneOrTwo B → 2 ^ d ≡ 256 ^ B
power d B deep size =
    ⊎_elim
    (λ e. let eight : d ≡ 8 = omega arith in ap (λ (n : ℕ). 2 ^ n) eight ∙ sym (ap (λ (n : ℕ). 256 ^ n) e))
    (λ e. let sixteen : d ≡ 16 = omega arith in ap (λ (n : ℕ). 2 ^ n) sixteen ∙ sym (ap (λ (n : ℕ). 256 ^ n) e))
    size

module _ (m B : ℕ) (s : Screen) (o : Surface m B (main_image s)) (deep : s.depth ≡ 8 * B) (size : OneOrTwo B)
    (u v : ℕ) (hu : u < (main_image s).width) (hv : v < (main_image s).height)
    (a : Ask) (same : s.depth ≡ a.depth) (depth : (a.depth ≡ 8) ⊎ (a.depth ≡ 16)) (bar : a.bar < 256 ^ B) (background : a.background < 256 ^ B)
    (bar_low : a.depth ≡ 8 → a.bar ≤ 255) (background_low : a.depth ≡ 8 → a.background ≤ 255) (site factory : List ℕ) where
  -- a glyph over it
  glyph_shade : (x y : ℕ) (glyph : List ℕ) → x ≤ u → u < x + glyph_size → y ≤ v → v < y + glyph_size → (old : List ℕ) → length old ≡ m
      → shade m B s o deep size u v hu hv (sheet_command s (glyph_at x y) (glyph_words a glyph) old) ≡ glyph_colour a glyph (u - x) (v - y)
  unfolding surface_of
  glyph_shade x y glyph p q r t old len =
      let n = glyph_colour a glyph (u - x) (v - y) in
      let below : n < 256 ^ B = colour_below a glyph (256 ^ B) bar background (u - x) (v - y) in
      pixel_new m B s o deep size (glyph_at x y) refl (glyph_words a glyph) old len u v hu hv (covered u v (glyph_at x y) p q r t)
      ∙ ap (λ (k : ℕ). k % 256 ^ B)
      (glyph_new s (glyph_words a glyph) old x y (u - x) (v - y)
      ∙ ap₂ (λ (k p : ℕ). k % p) (host_glyph a glyph (u - x) (v - y) (omega arith) (omega arith) s.depth same depth bar_low background_low) (power s.depth B deep size)
      ∙ mod-eq_of_lt below)
      ∙ mod-eq_of_lt below

  -- the words that the first of the writes takes, and those that it leaves
  module _ (x y : ℕ) (glyph rest : List ℕ) where
    count : words_taken s (glyph_at x y) ≡ length (glyph_words a glyph)
    count = glyph_takes s a x y ∙ ap (λ (n : ℕ). glyph_size * line_words n glyph_size) same ∙ sym (glyph_words_count a glyph)

    taken_words : take (words_taken s (glyph_at x y)) (glyph_words a glyph ++ rest) ≡ glyph_words a glyph
    taken_words = ap (λ (n : ℕ). take n (glyph_words a glyph ++ rest)) count ∙ take-append_seam (glyph_words a glyph) rest

    left_words : drop (words_taken s (glyph_at x y)) (glyph_words a glyph ++ rest) ≡ rest
    left_words = ap (λ (n : ℕ). drop n (glyph_words a glyph ++ rest)) count ∙ drop-append_seam (glyph_words a glyph) rest

  -- digit k of those from digit i on
  pub writes_shade : (i : ℕ) (ds : List ℕ) (k : ℕ) → k < length ds → a.x + (i + k) * glyph_size ≤ u → u < a.x + (i + k) * glyph_size + glyph_size
      → a.y + column_height ≤ v → v < a.y + column_height + glyph_size → (old : List ℕ) → length old ≡ m
      → shade m B s o deep size u v hu hv (drawn s (writes a i ds) (digit_words a site factory ds) old)
      ≡ glyph_colour a (glyph_of site factory (get_or ds k 0)) (u - (a.x + (i + k) * glyph_size)) (v - (a.y + column_height))
  unfolding writes drawn digit_words
  writes_shade i [] k few left right top bottom old len = absurd (omega arith)
  writes_shade i (d ∷ ds) zero few left right top bottom old len =
      let x = a.x + i * glyph_size in
      let y = a.y + column_height in
      let glyph = glyph_of site factory d in
      let rest = digit_words a site factory ds in
      let here : a.x + (i + 0) * glyph_size ≡ a.x + i * glyph_size = omega arith in
      (λ t. shade m B s o deep size u v hu hv (drawn s (writes a (suc i) ds) (left_words x y glyph rest t) (sheet_command s (glyph_at x y) (taken_words x y glyph rest t) old)))
      ∙ missed m B s o deep size u v hu hv (writes a (suc i) ds) (writes_miss u v a (suc i) ds (λ p q r t. omega arith)) rest (sheet_command s (glyph_at x y) (glyph_words a glyph) old)
      (length_sheet s (glyph_at x y) (glyph_words a glyph) old ∙ len)
      ∙ glyph_shade x y glyph (omega arith) (omega arith) top bottom old len
      ∙ ap (λ (n : ℕ). glyph_colour a glyph (u - n) (v - y)) (sym here)
  writes_shade i (d ∷ ds) (suc k) few left right top bottom old len =
      let x = a.x + i * glyph_size in
      let y = a.y + column_height in
      let glyph = glyph_of site factory d in
      let rest = digit_words a site factory ds in
      let here : a.x + (suc i + k) * glyph_size ≡ a.x + (i + suc k) * glyph_size = omega arith in
      (λ t. shade m B s o deep size u v hu hv (drawn s (writes a (suc i) ds) (left_words x y glyph rest t) (sheet_command s (glyph_at x y) (taken_words x y glyph rest t) old)))
      ∙ writes_shade (suc i) ds k (omega arith) (omega arith) (omega arith) top bottom (sheet_command s (glyph_at x y) (glyph_words a glyph) old)
      (length_sheet s (glyph_at x y) (glyph_words a glyph) old ∙ len)
      ∙ ap (λ (n : ℕ). glyph_colour a (glyph_of site factory (get_or ds k 0)) (u - n) (v - y)) here
