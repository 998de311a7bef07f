-- Host words: drawn one after the other, the words of a write make its lines.
use mathlib.Core.Path.{◌≡◌, refl, sym, ap, ap₂, ◌∙◌}
use mathlib.Core.List.{List}
use Prim.Native.Nat.{ℕ, zero, suc, ◌+◌, ◌-◌, ◌*◌, ◌≤◌, ◌<◌, min}
use native.Mathlib.Nat.{add-mul, suc-mul, zero-mul, mul-le-mul_right}
use native.Mathlib.Numerals.{add-one}
use native.Mathlib.Omega.{arith}
use lib.Arith.{digits_div, digits_mod}
use lib.ListN.{length, get_or}
use Rattle.blit.specs.Blit.{Blit, Source, given, positive, offset, pixels, chip_line, chip_lines, chip_blit}
use Rattle.blit.specs.Words.{per_word, words_across, word_pixel, host_pixel, chip_word}
use Rattle.blit.proofs.Runs.{length_pixels, pixels_append, pixels_ext}

-- ---- words and pixels of a line, with one or two bytes to a pixel

-- a word of the line starts in it
pub word_starts : (bytes width t : ℕ) → 0 < bytes → bytes ≤ 2 → t < words_across bytes width → t * per_word bytes < width
word_starts zero width t p q h = absurd (omega arith)
word_starts (suc zero) width t p q h = omega arith
word_starts (suc (suc zero)) width t p q h = omega arith
word_starts (suc (suc (suc n))) width t p q h = absurd (omega arith)

-- the words of a line hold all its pixels
pub words_cover : (bytes width : ℕ) → 0 < bytes → bytes ≤ 2 → width ≤ words_across bytes width * per_word bytes
words_cover zero width p q = absurd (omega arith)
words_cover (suc zero) width p q = omega arith
words_cover (suc (suc zero)) width p q = omega arith
words_cover (suc (suc (suc n))) width p q = absurd (omega arith)

-- ---- one word

-- the blit with its source from host words
abbrev pub hosted : Blit → List ℕ → Blit
hosted b words =
    record {
      bytes = b.bytes;
      line = b.line;
      width = b.width;
      height = b.height;
      combine = b.combine;
      source = given (host_pixel b.bytes b.width words);
      destination = b.destination;
    }

-- word t of line j
abbrev pub host_word : Blit → List ℕ → ℕ → ℕ → ℕ
host_word b words j t = get_or words (j * words_across b.bytes b.width + t) 0

pub length_word : (b : Blit) (j t word : ℕ) (m : List ℕ) → length (chip_word b j t word m) ≡ length m
unfolding chip_word
length_word b j t word m = length_pixels _ _ _ _ _ m

-- pixel i of word t is pixel t * per_word + i of the line
word_pixel_lem : (bytes width : ℕ) (words : List ℕ) (j t i : ℕ) → i < per_word bytes
    → host_pixel bytes width words (t * per_word bytes + i) j ≡ word_pixel bytes (get_or words (j * words_across bytes width + t) 0) i
unfolding host_pixel
word_pixel_lem bytes width words j t i h =
    ap₂ (λ (x y : ℕ). word_pixel bytes (get_or words (j * words_across bytes width + x) 0) y)
    (digits_div t h) (digits_mod t h)

-- a word that starts in the line goes on with it, as far as the line has pixels
pub word_line : (b : Blit) (words : List ℕ) (j t : ℕ) (old : List ℕ) → t * per_word b.bytes ≤ b.width
    → chip_word b j t (host_word b words j t) (chip_line (hosted b words) positive j (t * per_word b.bytes) old)
    ≡ chip_line (hosted b words) positive j (min ((t + 1) * per_word b.bytes) b.width) old
unfolding chip_word chip_line
word_line b words j t old h =
    let per : ℕ = per_word b.bytes in
    let first : ℕ = t * per in
    let count : ℕ = min per (b.width - first) in
    let more : (t + 1) * per ≡ per + t * per = ap (λ (x : ℕ). x * per) (add-one t) ∙ suc-mul t per ∙ omega arith in
    let sum : min ((t + 1) * per) b.width ≡ first + count = omega arith in
    let fetch : List ℕ → ℕ → ℕ = λ m i. host_pixel b.bytes b.width words i j in
    let place : ℕ → ℕ = λ i. b.destination + offset b i j in
    sym
    (ap (λ (n : ℕ). pixels b.bytes b.combine place fetch n old) sum
    ∙ pixels_append b.bytes b.combine place fetch first count old
    ∙ pixels_ext b.bytes b.combine (λ i. place (first + i)) (λ i. place (first + i)) (λ m i. fetch m (first + i))
    (λ m i. word_pixel b.bytes (host_word b words j t) i) count (pixels b.bytes b.combine place fetch first old)
    (λ i hi. refl) (λ m i hi. word_pixel_lem b.bytes b.width words j t i (omega arith)))

-- a blit whose source is from the words is its own
pub hosted_own : (b : Blit) (words : List ℕ) → b.source ≡ given (host_pixel b.bytes b.width words) → hosted b words ≡ b
hosted_own b words e =
    ap (λ (s : Source).
    record { bytes = b.bytes; line = b.line; width = b.width; height = b.height; combine = b.combine; source = s; destination = b.destination })
    (sym e)

-- ---- word by word

-- the memory once all words before word t of line j are drawn
unfoldable pub writing : Blit → List ℕ → ℕ → ℕ → List ℕ → List ℕ
writing b words j t old = chip_line (hosted b words) positive j (t * per_word b.bytes) (chip_lines (hosted b words) positive j old)

module _ (b : Blit) (words old : List ℕ) where
  pub write_first : writing b words 0 0 old ≡ old
  unfolding writing chip_line chip_lines pixels
  write_first = rw (zero-mul (per_word b.bytes)) refl

  pub write_last : writing b words b.height 0 old ≡ chip_blit (hosted b words) positive old
  unfolding writing chip_line chip_blit pixels
  write_last = rw (zero-mul (per_word b.bytes)) refl

  line_end_lem : (j : ℕ) → chip_line (hosted b words) positive j b.width (chip_lines (hosted b words) positive j old) ≡ writing b words (j + 1) 0 old
  unfolding writing chip_line chip_lines pixels
  line_end_lem j = rw (add-one j, zero-mul (per_word b.bytes)) refl

  module _ (some : 0 < b.bytes) (few : b.bytes ≤ 2) (j t : ℕ) where
    -- a word that is not the last of its line
    pub write_next : t + 1 < words_across b.bytes b.width
        → chip_word b j t (host_word b words j t) (writing b words j t old) ≡ writing b words j (t + 1) old
    unfolding writing
    write_next h =
        let begun : (t + 1) * per_word b.bytes < b.width = word_starts b.bytes b.width (t + 1) some few h in
        let up : t * per_word b.bytes < b.width = word_starts b.bytes b.width t some few (omega arith) in
        let all : min ((t + 1) * per_word b.bytes) b.width ≡ (t + 1) * per_word b.bytes = omega arith in
        word_line b words j t (chip_lines (hosted b words) positive j old) (omega arith)
        ∙ ap (λ (n : ℕ). chip_line (hosted b words) positive j n (chip_lines (hosted b words) positive j old)) all

    -- the last word of its line
    pub write_line : t + 1 ≡ words_across b.bytes b.width
        → chip_word b j t (host_word b words j t) (writing b words j t old) ≡ writing b words (j + 1) 0 old
    unfolding writing
    write_line h =
        let begun : t * per_word b.bytes < b.width = word_starts b.bytes b.width t some few (omega arith) in
        let cover : b.width ≤ (t + 1) * per_word b.bytes = rw h (words_cover b.bytes b.width some few) in
        let all : min ((t + 1) * per_word b.bytes) b.width ≡ b.width = omega arith in
        word_line b words j t (chip_lines (hosted b words) positive j old) (omega arith)
        ∙ ap (λ (n : ℕ). chip_line (hosted b words) positive j n (chip_lines (hosted b words) positive j old)) all
        ∙ line_end_lem j

-- ---- a word where it stands

module _ (b : Blit) (j t at count : ℕ) (starts : at ≡ b.destination + offset b (t * per_word b.bytes) j)
    (some : count ≡ min (per_word b.bytes) (b.width - t * per_word b.bytes)) where
  -- the first pixels of a word, drawn from its address on
  pub put_is_word : (word : ℕ) (old : List ℕ)
      → pixels b.bytes b.combine (λ i. at + i * b.bytes) (λ m i. word_pixel b.bytes word i) count old ≡ chip_word b j t word old
  unfolding chip_word
  put_is_word word old =
      ap (λ (n : ℕ). pixels b.bytes b.combine (λ i. at + i * b.bytes) (λ m i. word_pixel b.bytes word i) n old) some
      ∙ pixels_ext b.bytes b.combine (λ i. at + i * b.bytes) (λ i. b.destination + offset b (t * per_word b.bytes + i) j)
      (λ m i. word_pixel b.bytes word i) (λ m i. word_pixel b.bytes word i) (min (per_word b.bytes) (b.width - t * per_word b.bytes)) old
      (λ i h. omega (arith, add-mul (t * per_word b.bytes) i b.bytes)) (λ m i h. refl)

  -- they lie in the line
  pub word_in_line : t * per_word b.bytes ≤ b.width → at + count * b.bytes ≤ b.destination + (j * b.line + b.width * b.bytes)
  word_in_line h =
      let le : t * per_word b.bytes + count ≤ b.width = omega arith in
      omega (arith, add-mul (t * per_word b.bytes) count b.bytes, mul-le-mul_right b.bytes le)

  pub word_count : count ≤ per_word b.bytes
  word_count = omega arith
