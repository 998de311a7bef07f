-- Laws of the pixels of a data word, drawn where the memory may end before them.
use Prim.Native.Nat.{ℕ, ◌+◌, ◌-◌, ◌*◌, ◌/◌, ◌%◌, ◌<◌, min}
use mathlib.Core.Path.{◌≡◌, refl, sym, ap, ◌∙◌}
use mathlib.Core.List.{List, [], ◌∷◌}
use native.Mathlib.Nat.{mul-one}
use native.Mathlib.Numerals.{add-one}
use native.Mathlib.Omega.{arith}
use lib.ListN.{get_or, set}
use Rattle.pixel.specs.Pixel.{get_pixel, put_pixel}
use Rattle.pixel.proofs.Pixels.{get_is_one, get_is_two, put_is_one, put_is_two}
use Rattle.blit.specs.Blit.{pixels}
use Rattle.blit.specs.Job.{mix_of}
use Rattle.blit.specs.declared.Mix.{Mix}
use Rattle.blit.specs.declared.Mix.TheVariants.{Raster}
use Rattle.blit.specs.Words.{per_word, word_pixel, chip_word}
use Rattle.blit.proofs.Words.{put_is_word}
use Rattle.chip.specs.Start.{bytes_of, line_of, width_of, destination_of, raster_code, write_of}
use Rattle.chip.specs.declared.Registers.{Registers}

-- ---- one pixel

module _ (n a : ℕ) (mix : Mix) (p v : ℕ) (m : List ℕ) where
  pub drawn_one : (x : ℕ) → n ≡ 1 → x ≡ get_or m a 0 → v ≡ mix_of mix n p x → set m a (v % 256) ≡ put_pixel n m a (mix_of mix n p (get_pixel n m a))
  drawn_one x e h k = put_is_one n m a v e ∙ ap (put_pixel n m a) (k ∙ ap (mix_of mix n p) (get_is_one n m a x e h))

  pub drawn_two : (x y : ℕ) (m' : List ℕ) → n ≡ 2 → x ≡ get_or m a 0 → y ≡ get_or m (a + 1) 0 → v ≡ mix_of mix n p (x + 256 * y)
      → m' ≡ set m a (v % 256) → set m' (a + 1) (v / 256 % 256) ≡ put_pixel n m a (mix_of mix n p (get_pixel n m a))
  drawn_two x y m' e h g k s =
      ap (λ (l : List ℕ). set l (a + 1) (v / 256 % 256)) s ∙ put_is_two n m a v e
      ∙ ap (put_pixel n m a) (k ∙ ap (mix_of mix n p) (get_is_two n m a x y e h g))

-- ---- the pixels of a word

-- a word has one pixel of two bytes, or its two bytes
pub first_only : (n i : ℕ) → n ≡ 2 → i < per_word n → i ≡ 0
first_only n i e h = let h' : i < 2 / 2 = rw e at h in omega arith

pub word_whole : (n w i : ℕ) → n ≡ 2 → i ≡ 0 → w < 65536 → w ≡ word_pixel n w i
unfolding word_pixel get_pixel
word_whole n w i e f h = rw (e, f) (omega arith)

pub word_byte : (n w i : ℕ) → n ≡ 1 → get_or (w % 256 ∷ w / 256 % 256 ∷ []) i 0 ≡ word_pixel n w i
unfolding word_pixel
word_byte n w i e =
    let bytes : List ℕ = w % 256 ∷ w / 256 % 256 ∷ [] in
    get_is_one n bytes (i * n) (get_or bytes i 0) e (ap (λ (k : ℕ). get_or bytes k 0) (sym (ap (λ (x : ℕ). i * x) e ∙ mul-one i)))

second_byte : (v q r : ℕ) → v ≡ q * 65536 + r → r / 256 % 256 ≡ v / 256 % 256
second_byte v q r e =
    let part : v / 256 ≡ q * 256 + r / 256 = omega arith in
    rw part (omega arith)

-- bits above the lowest sixteen are not looked at
pub word_bits : (n v i : ℕ) → word_pixel n (v % 65536) i ≡ word_pixel n v i
unfolding word_pixel
word_bits n v i =
    let low : v % 65536 % 256 ≡ v % 256 = omega arith in
    let high : v % 65536 / 256 % 256 ≡ v / 256 % 256 = second_byte v (v / 65536) (v % 65536) (omega arith) in
    λ t. get_pixel n (low t ∷ high t ∷ []) (i * n)

-- ---- a run of pixels

-- the first i pixels of a word, from address a on
abbrev pub word_pixels : ℕ → Mix → ℕ → ℕ → ℕ → List ℕ → List ℕ
word_pixels n mix a w i m = pixels n (mix_of mix n) (λ k. a + k * n) (λ x k. word_pixel n w k) i m

pub none_drawn : (n : ℕ) (mix : Mix) (a w : ℕ) (m : List ℕ) → m ≡ word_pixels n mix a w 0 m
unfolding pixels
none_drawn n mix a w m = refl

pub one_more : (n : ℕ) (mix : Mix) (a w i p : ℕ) (m₀ m : List ℕ) → m ≡ word_pixels n mix a w i m₀ → p ≡ word_pixel n w i
    → put_pixel n m (a + i * n) (mix_of mix n p (get_pixel n m (a + i * n))) ≡ word_pixels n mix a w (i + 1) m₀
unfolding pixels
one_more n mix a w i p m₀ m e h =
    (λ t. put_pixel n (e t) (a + i * n) (mix_of mix n (h t) (get_pixel n (e t) (a + i * n))))
    ∙ ap (λ (k : ℕ). word_pixels n mix a w k m₀) (sym (add-one i))

-- the pixels that a data word has in its line
pub word_written : (b : Registers) (j t n code a count w v : ℕ) (m : List ℕ) → n ≡ bytes_of b → code ≡ raster_code b
    → a ≡ destination_of b + (j * line_of b + t * per_word (bytes_of b) * bytes_of b) → count ≡ min (per_word (bytes_of b) * 1) (width_of b - t * per_word (bytes_of b))
    → w ≡ v % 65536 → word_pixels n (Raster code) a w count m ≡ chip_word (write_of b (λ i k. 0)) j t v m
unfolding write_of
word_written b j t n code a count w v m en ec ea ek ew =
    (λ x. word_pixels (en x) (Raster (ec x)) a (ew x) count m)
    ∙ (λ x. pixels (bytes_of b) (mix_of (Raster (raster_code b)) (bytes_of b)) (λ k. a + k * bytes_of b) (λ y k. word_bits (bytes_of b) v k x) count m)
    ∙ put_is_word (write_of b (λ i k. 0)) j t a count ea (ek ∙ ap (λ (x : ℕ). min x (width_of b - t * per_word (bytes_of b))) (mul-one (per_word (bytes_of b)))) v m
