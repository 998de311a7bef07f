-- Host words of a line, one after another: their bytes make a source line.
use mathlib.Core.Path.{◌≡◌, refl, sym, ap, ◌∙◌}
use mathlib.Core.List.{List, [], ◌∷◌, ◌++◌}
use Prim.Native.Nat.{ℕ, zero, suc, ◌+◌, ◌-◌, ◌*◌, ◌/◌, ◌%◌, ◌≤◌, ◌<◌, min}
use native.Mathlib.Nat.{add-mul, mul_assoc, mul_comm, mul-suc, mul-zero, suc-mul}
use native.Mathlib.Omega.{arith}
use lib.ListN.{length, get_or-append}
use Rattle.pixel.specs.Pixel.{get_pixel}
use Rattle.pixel.proofs.Pixels.{get_ext}
use Rattle.blit.specs.Blit.{Blit, offset, pixels}
use Rattle.blit.specs.Words.{per_word, word_pixel, chip_word, chip_words, word_bytes}
use Rattle.blit.proofs.Runs.{step_fits, pixels_append, pixels_ext}
use Rattle.blit.proofs.Words.{length_word}

pub length_word_bytes : (ws : List ℕ) → length (word_bytes ws) ≡ 2 * length ws
unfolding word_bytes
length_word_bytes [] = refl
length_word_bytes (w ∷ ws) =
    let e : length (word_bytes ws) ≡ 2 * length ws = length_word_bytes ws in
    omega arith

pub length_words : (b : Blit) (j t : ℕ) (ws m : List ℕ) → length (chip_words b j t ws m) ≡ length m
unfolding chip_words
length_words b j t [] m = refl
length_words b j t (w ∷ ws) m = length_words b j (suc t) ws (chip_word b j t w m) ∙ length_word b j t w m

-- a word is two bytes
pub per_bytes : (bytes : ℕ) → 0 < bytes → bytes ≤ 2 → per_word bytes * bytes ≡ 2
per_bytes zero p q = absurd (omega arith)
per_bytes (suc zero) p q = refl
per_bytes (suc (suc zero)) p q = refl
per_bytes (suc (suc (suc n))) p q = absurd (omega arith)

-- a pixel of the first of two lists
get_front : (n : ℕ) (l q : List ℕ) (a : ℕ) → a + n ≤ length l → get_pixel n (l ++ q) a ≡ get_pixel n l a
get_front n l q a h = get_ext n (l ++ q) l a (λ x p r. get_or-append l q 0 x (omega arith))

-- a pixel behind the first two bytes
get_behind : (n x y : ℕ) (l : List ℕ) (a : ℕ) → get_pixel n (x ∷ y ∷ l) (suc (suc a)) ≡ get_pixel n l a
unfolding get_pixel
get_behind zero x y l a = refl
get_behind (suc n) x y l a = rw (get_behind n x y l (suc a)) refl

-- words of a line, one after another, are the pixels of their bytes side by side, as far as the line has them
pub words_drawn_lem : (b : Blit) → 0 < b.bytes → b.bytes ≤ 2 → (j t : ℕ) (ws old : List ℕ)
    → chip_words b j t ws old
    ≡ pixels b.bytes b.combine (λ i. b.destination + offset b (t * per_word b.bytes + i) j)
    (λ m i. get_pixel b.bytes (word_bytes ws) (i * b.bytes)) (min (per_word b.bytes * length ws) (b.width - t * per_word b.bytes)) old
unfolding chip_words chip_word word_pixel word_bytes pixels
words_drawn_lem b some few j t [] old =
    let none : min (per_word b.bytes * 0) (b.width - t * per_word b.bytes) ≡ 0 = omega (arith, mul-zero (per_word b.bytes)) in
    rw none refl
words_drawn_lem b some few j t (w ∷ ws) old =
    let bytes : ℕ = b.bytes in
    let per : ℕ = per_word bytes in
    let n : ℕ = length ws in
    let two : per * bytes ≡ 2 = per_bytes bytes some few in
    let next : suc t * per ≡ t * per + per = suc-mul t per in
    let more : per * suc n ≡ per * n + per = mul-suc per n in
    let first : ℕ = min per (b.width - t * per) in
    let rest : ℕ = min (per * n) (b.width - suc t * per) in
    let sum : min (per * suc n) (b.width - t * per) ≡ first + rest = omega arith in
    let place : ℕ → ℕ = λ i. b.destination + offset b (t * per + i) j in
    let fetch : List ℕ → ℕ → ℕ = λ m i. get_pixel bytes (word_bytes (w ∷ ws)) (i * bytes) in
    let low : ℕ = w % 256 in
    let high : ℕ = w / 256 % 256 in
    words_drawn_lem b some few j (suc t) ws (chip_word b j t w old)
    ∙ sym
    (ap (λ (k : ℕ). pixels bytes b.combine place fetch k old) sum
    ∙ pixels_append bytes b.combine place fetch first rest old
    ∙ ap (λ (m : List ℕ). pixels bytes b.combine (λ i. place (first + i)) (λ m i. fetch m (first + i)) rest m)
    (pixels_ext bytes b.combine place place fetch (λ m i. word_pixel bytes w i) first old
    (λ i h. refl)
    (λ m i h. get_front bytes (low ∷ high ∷ []) (word_bytes ws) (i * bytes) (omega (arith, step_fits bytes i per (omega arith)))))
    ∙ pixels_ext bytes b.combine (λ i. place (first + i)) (λ i. b.destination + offset b (suc t * per + i) j)
    (λ m i. fetch m (first + i)) (λ m i. get_pixel bytes (word_bytes ws) (i * bytes)) rest (chip_word b j t w old)
    (λ i h.
    let e : t * per + (first + i) ≡ suc t * per + i = omega arith in
    ap (λ (k : ℕ). b.destination + offset b k j) e)
    (λ m i h.
    let e : first ≡ per = omega arith in
    let at : (first + i) * bytes ≡ suc (suc (i * bytes)) = ap (λ (k : ℕ). (k + i) * bytes) e ∙ add-mul per i bytes ∙ omega arith in
    ap (get_pixel bytes (word_bytes (w ∷ ws))) at ∙ get_behind bytes low high (word_bytes ws) (i * bytes)))

-- the same where they stand, from a source line that begins with the words' bytes
pub put_is_words : (b : Blit) (j t at count : ℕ) (ws source rest : List ℕ) → 0 < b.bytes → b.bytes ≤ 2
    → at ≡ b.destination + offset b (t * per_word b.bytes) j → count ≡ min (per_word b.bytes * length ws) (b.width - t * per_word b.bytes)
    → source ≡ word_bytes ws ++ rest → (old : List ℕ)
    → pixels b.bytes b.combine (λ i. at + i * b.bytes) (λ m i. get_pixel b.bytes source (i * b.bytes)) count old ≡ chip_words b j t ws old
put_is_words b j t at count ws source rest some few starts size begins old =
    let bytes : ℕ = b.bytes in
    let per : ℕ = per_word bytes in
    let n : ℕ = length ws in
    let all : per * n * bytes ≡ 2 * n =
    ap (λ (k : ℕ). k * bytes) (mul_comm per n) ∙ mul_assoc n per bytes ∙ ap (λ (k : ℕ). n * k) (per_bytes bytes some few) ∙ mul_comm n 2 in
    pixels_ext bytes b.combine (λ i. at + i * bytes) (λ i. b.destination + offset b (t * per + i) j)
    (λ m i. get_pixel bytes source (i * bytes)) (λ m i. get_pixel bytes (word_bytes ws) (i * bytes)) count old
    (λ i h. omega (arith, add-mul (t * per) i bytes))
    (λ m i h.
    ap (λ (l : List ℕ). get_pixel bytes l (i * bytes)) begins
    ∙ get_front bytes (word_bytes ws) rest (i * bytes) (omega (arith, length_word_bytes ws, step_fits bytes i (per * n) (omega arith))))
    ∙ ap
    (λ (k : ℕ).
    pixels bytes b.combine (λ i. b.destination + offset b (t * per + i) j) (λ m i. get_pixel bytes (word_bytes ws) (i * bytes)) k old)
    size
    ∙ sym (words_drawn_lem b some few j t ws old)
