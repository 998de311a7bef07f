-- The words of a stream's records: their bytes gathered into a source line, and the line that they make.
use Prim.Native.Nat.{ℕ, suc, ◌+◌, ◌-◌, ◌*◌, ◌/◌, ◌%◌, ◌≤◌, ◌<◌, min}
use mathlib.Core.Path.{◌≡◌, refl, sym, ap, ◌∙◌}
use mathlib.Core.List.{List, [], ◌∷◌, ◌++◌}
use native.Mathlib.Nat.{add-zero, mul_assoc, mul_comm, mul-le-mul_right}
use native.Mathlib.Numerals.{add-one}
use native.Mathlib.Omega.{arith}
use lib.ListN.{length, set, drop}
use lib.Seq.{sets, sets-eq}
use Rattle.record.specs.Record.{record_at, records_from}
use Rattle.record.specs.declared.Record.{Record}
use Rattle.record.proofs.Records.{records_step_lem, records_end, length_from}
use Rattle.blit.specs.Blit.{Blit, pixels}
use Rattle.blit.specs.Job.{mix_of}
use Rattle.blit.specs.declared.Mix.TheVariants.{Raster}
use Rattle.blit.specs.Words.{per_word, chip_word, chip_words, word_bytes}
use Rattle.blit.proofs.LineWords.{per_bytes, length_word_bytes, put_is_words}
use Rattle.pixel.specs.Pixel.{get_pixel}
use Rattle.chip.specs.Start.{bytes_of, line_of, width_of, destination_of, raster_code, write_of}
use Rattle.chip.specs.Words.{values_of}
use Rattle.chip.specs.declared.Registers.{Registers}

pub length_values : (rs : List Record) → length (values_of rs) ≡ length rs
unfolding values_of
length_values [] = refl
length_values (r ∷ rs) = ap suc (length_values rs)

pub values_step : (s : List ℕ) (i n : ℕ) → i < n → values_of (records_from s i (n - i)) ≡ (record_at s i).value ∷ values_of (records_from s (i + 1) (n - (i + 1)))
unfolding values_of
values_step s i n h = ap values_of (records_step_lem s i n h)

pub values_end : (s : List ℕ) (n : ℕ) → values_of (records_from s n (n - n)) ≡ []
unfolding values_of
values_end s n = ap values_of (records_end s n)

-- ---- the loops over records i to i + n, once k of them are done

module _ (s : List ℕ) (i n : ℕ) where
  -- the words that are left
  abbrev pub left : ℕ → List ℕ
  left k = values_of (records_from s (i + k) (i + n - (i + k)))

  left_all : left 0 ≡ values_of (records_from s i n)
  left_all =
      let e : i + n - (i + 0) ≡ n = omega arith in
      λ t. values_of (records_from s (add-zero i t) (e t))

  left_step : (k : ℕ) → k < n → left k ≡ (record_at s (i + k)).value ∷ left (k + 1)
  left_step k h =
      let e : i + k + 1 ≡ i + (k + 1) = omega arith in
      values_step s (i + k) (i + n) (omega arith)
      ∙ ap (λ (x : ℕ). (record_at s (i + k)).value ∷ values_of (records_from s x (i + n - x))) e

  left_none : (k : ℕ) → k ≡ n → left k ≡ []
  left_none k e =
      let f : i + k ≡ i + n = omega (arith, e) in
      ap (λ (x : ℕ). values_of (records_from s x (i + n - x))) f ∙ values_end s (i + n)

  -- gathering: the bytes that are left, stored behind those that are done, are all of them
  module _ (old : List ℕ) where
    abbrev pub Gathering : ℕ → List ℕ → Type 0
    Gathering k l = sets l (2 * k) (word_bytes (left k)) ≡ sets old 0 (word_bytes (values_of (records_from s i n)))

    pub gather_start : Gathering 0 old
    gather_start = λ t. sets old 0 (word_bytes (left_all t))

    pub gather_step : (k : ℕ) (l : List ℕ) (r : Record) → k < n → r ≡ record_at s (i + k) → Gathering k l
        → Gathering (k + 1) (set (set l (2 * k) (r.value % 256)) (2 * k + 1) (r.value / 256 % 256))
    unfolding word_bytes
    gather_step k l r h e g =
        let v : ℕ = r.value in
        let p : 2 * (k + 1) ≡ suc (suc (2 * k)) = omega arith in
        (λ t. sets (set (set l (2 * k) (v % 256)) (add-one (2 * k) t) (v / 256 % 256)) (p t) (word_bytes (left (k + 1))))
        ∙ ap (λ (x : ℕ). sets l (2 * k) (word_bytes (x ∷ left (k + 1)))) (ap (λ (x : Record). x.value) e)
        ∙ ap (λ (ws : List ℕ). sets l (2 * k) (word_bytes ws)) (sym (left_step k h))
        ∙ g

    pub gather_end : (k : ℕ) (l : List ℕ) → k ≡ n → Gathering k l → l ≡ sets old 0 (word_bytes (values_of (records_from s i n)))
    unfolding word_bytes
    gather_end k l e g = ap (λ (ws : List ℕ). sets l (2 * k) (word_bytes ws)) (sym (left_none k e)) ∙ g

  -- drawing word by word: the words that are left, drawn over what is done
  module _ (b : Blit) (j t : ℕ) (old : List ℕ) where
    abbrev pub Drawing : ℕ → List ℕ → Type 0
    Drawing k m = chip_words b j (t + k) (left k) m ≡ chip_words b j t (values_of (records_from s i n)) old

    pub draw_start : Drawing 0 old
    draw_start = λ x. chip_words b j (add-zero t x) (left_all x) old

    pub draw_step : (k : ℕ) (m m' : List ℕ) (r : Record) → k < n → r ≡ record_at s (i + k) → m' ≡ chip_word b j (t + k) r.value m → Drawing k m → Drawing (k + 1) m'
    unfolding chip_words
    draw_step k m m' r h e w g =
        let p : t + (k + 1) ≡ suc (t + k) = omega arith in
        (λ x. chip_words b j (p x) (left (k + 1)) ((w ∙ ap (λ (y : Record). chip_word b j (t + k) y.value m) e) x))
        ∙ ap (λ (ws : List ℕ). chip_words b j (t + k) ws m) (sym (left_step k h))
        ∙ g

    pub draw_end : (k : ℕ) (m : List ℕ) → k ≡ n → Drawing k m → m ≡ chip_words b j t (values_of (records_from s i n)) old
    unfolding chip_words
    draw_end k m e g = ap (λ (ws : List ℕ). chip_words b j (t + k) ws m) (sym (left_none k e)) ∙ g

-- ---- a gathered line

-- where a word stands: two bytes to a word
pub word_place : (b : Registers) (t : ℕ) → 2 * t ≡ t * per_word (bytes_of b) * bytes_of b
word_place b t = sym (mul_assoc t (per_word (bytes_of b)) (bytes_of b) ∙ ap (λ (x : ℕ). t * x) (per_bytes (bytes_of b) (omega arith) (omega arith)) ∙ omega arith)

-- the pixels of so many words are in their bytes
pub in_words : (b : Registers) (n x count : ℕ) → count ≡ min (per_word (bytes_of b) * n) x → count * bytes_of b ≤ 2 * n
in_words b n x count e =
    let per : ℕ = per_word (bytes_of b) in
    let all : per * n * bytes_of b ≡ n * 2 = ap (λ (k : ℕ). k * bytes_of b) (mul_comm per n) ∙ mul_assoc n per (bytes_of b) ∙ ap (λ (k : ℕ). n * k) (per_bytes (bytes_of b) (omega arith) (omega arith)) in
    let few : count ≤ per * n = omega (arith, e) in
    omega (arith, all, mul-le-mul_right (bytes_of b) few)

-- drawn at once it is its words, one by one
pub line_written : (b : Registers) (j t n at count bytes code : ℕ) (s : List ℕ) (i : ℕ) (room source m : List ℕ) → bytes ≡ bytes_of b → code ≡ raster_code b
    → at ≡ destination_of b + (j * line_of b + t * per_word (bytes_of b) * bytes_of b)
    → count ≡ min (per_word (bytes_of b) * n) (width_of b - t * per_word (bytes_of b)) → 2 * n ≤ length room
    → source ≡ sets room 0 (word_bytes (values_of (records_from s i n)))
    → pixels bytes (mix_of (Raster code) bytes) (λ k. at + k * bytes) (λ x k. get_pixel bytes source (k * bytes)) count m
    ≡ chip_words (write_of b (λ x y. 0)) j t (values_of (records_from s i n)) m
unfolding write_of
line_written b j t n at count bytes code s i room source m eb ec ea ek fits es =
    let ws : List ℕ = values_of (records_from s i n) in
    let size : length ws ≡ n = length_values (records_from s i n) ∙ length_from s i n in
    let begins : source ≡ word_bytes ws ++ drop (0 + length (word_bytes ws)) room =
    es ∙ sets-eq (word_bytes ws) room 0 (omega (arith, length_word_bytes ws, size, fits)) in
    (λ x. pixels (eb x) (mix_of (Raster (ec x)) (eb x)) (λ k. at + k * eb x) (λ y k. get_pixel (eb x) source (k * eb x)) count m)
    ∙ put_is_words (write_of b (λ x y. 0)) j t at count ws source (drop (0 + length (word_bytes ws)) room) (omega arith) (omega arith) ea
    (ek ∙ ap (λ (k : ℕ). min (per_word (bytes_of b) * k) (width_of b - t * per_word (bytes_of b))) (sym size)) begins m
