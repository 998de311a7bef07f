-- Laws of digits' host words: how many they are, and storing them glyph by glyph.
use Prim.Native.Nat.{ℕ, zero, suc, ◌+◌, ◌*◌, ◌<◌, ◌≤◌}
use mathlib.Core.Path.{◌≡◌, refl, sym, ap, ◌∙◌}
use mathlib.Core.List.{List, [], ◌∷◌}
use native.Mathlib.Nat.{zero-mul, mul-zero, suc-mul, mul_comm, mul-suc, mul-le-mul_left}
use native.Mathlib.Numerals.{add-one}
use native.Mathlib.Omega.{arith}
use lib.ListN.{length, get_or, drop, length-append}
use lib.Seq.{sets, length-sets, drop-cons}
use borrow.Author.Tests.{eq-eqb, ne_eqb}
use Rattle.record.proofs.Lists.{length_tabulate}
use Rattle.record.proofs.Stores.{sets_append}
use Rattle.command.specs.Command.{line_words}
use Rattle.wear.specs.Font.{glyph_of}
use Rattle.wear.specs.Strip.{glyph_word, glyph_words, digit_words}
use Rattle.wear.specs.declared.Ask.{Ask}

-- ---- how many
-- 32 at depth 8, else 64
pub words_narrow : (depth : ℕ) → depth ≡ 8 → 8 * line_words depth 8 ≡ 32
unfolding line_words
words_narrow depth h = rw (eq-eqb depth 8 h)

pub words_wide : (depth : ℕ) → (depth ≡ 8 → ⊥) → 8 * line_words depth 8 ≡ 64
unfolding line_words
words_wide depth h = rw (ne_eqb depth 8 h)

pub glyph_words_count : (a : Ask) (g : List ℕ) → length (glyph_words a g) ≡ 8 * line_words a.depth 8
unfolding glyph_words
glyph_words_count a g = length_tabulate (8 * line_words a.depth 8) (glyph_word a g)

pub digit_words_count : (a : Ask) (site factory ds : List ℕ) → length (digit_words a site factory ds) ≡ length ds * (8 * line_words a.depth 8)
unfolding digit_words
digit_words_count a site factory [] = sym (zero-mul (8 * line_words a.depth 8))
digit_words_count a site factory (d ∷ ds) =
    length-append (glyph_words a (glyph_of site factory d)) (digit_words a site factory ds)
    ∙ rw (glyph_words_count a (glyph_of site factory d), digit_words_count a site factory ds, suc-mul) (omega arith)

-- ---- storing
drop_past : (i : ℕ) (l : List ℕ) → length l ≤ i → drop i l ≡ []
drop_past zero [] h = refl
drop_past (suc i) [] h = refl
drop_past zero (x ∷ l) h = absurd (omega arith)
drop_past (suc i) (x ∷ l) h = drop_past i l (omega arith)

-- digits from digit i on are left to store
pub record Digiting (a : Ask) (site factory ds : List ℕ) (n : ℕ) (old l : List ℕ) (i : ℕ) : Type 0 where
  pub within : i ≤ length ds
  pub same : length l ≡ length old
  pub left : sets l (n * i) (digit_words a site factory (drop i ds)) ≡ sets old 0 (digit_words a site factory ds)

module _ (a : Ask) (site factory ds : List ℕ) (n : ℕ) (old : List ℕ) (e : n ≡ 8 * line_words a.depth 8) where
  pub digit_start : Digiting a site factory ds n old old 0
  digit_start = record { within = omega arith; same = refl; left = rw mul-zero }

  -- a digit's words end in the buffer
  pub digit_fits : (l : List ℕ) (i : ℕ) → Digiting a site factory ds n old l i → i < length ds → length (digit_words a site factory ds) ≤ length old → n * i + n ≤ length l
  digit_fits l i p h w =
      omega (arith, p.same, digit_words_count a site factory ds, mul_comm (length ds) n, ap (λ (x : ℕ). length ds * x) e, mul-le-mul_left n h, mul-suc n i)

  -- the next digit's words of those that are left
  next_digit : (l : List ℕ) (i : ℕ) → i < length ds → sets l (n * i) (digit_words a site factory (drop i ds)) ≡ sets (sets l (n * i) (glyph_words a (glyph_of site factory (get_or ds i 0)))) (n * (i + 1)) (digit_words a site factory (drop (i + 1) ds))
  unfolding digit_words
  next_digit l i h =
      let w = glyph_words a (glyph_of site factory (get_or ds i 0)) in
      let q : n * i + length w ≡ n * suc i = ap (λ (x : ℕ). n * i + x) (glyph_words_count a (glyph_of site factory (get_or ds i 0)) ∙ sym e) ∙ sym (mul-suc n i) in
      rw (add-one, drop-cons ds i 0 h)
      (sets_append l (n * i) w (digit_words a site factory (drop (suc i) ds)) ∙ ap (λ (x : ℕ). sets (sets l (n * i) w) x (digit_words a site factory (drop (suc i) ds))) q)

  pub digit_turn : (l new : List ℕ) (i : ℕ) → Digiting a site factory ds n old l i → i < length ds → new ≡ sets l (n * i) (glyph_words a (glyph_of site factory (get_or ds i 0))) → Digiting a site factory ds n old new (i + 1)
  digit_turn l new i p h q =
      record {
        within = omega arith;
        same = ap (λ (x : List ℕ). length x) q ∙ length-sets l (n * i) (glyph_words a (glyph_of site factory (get_or ds i 0))) ∙ p.same;
        left = ap (λ (x : List ℕ). sets x (n * (i + 1)) (digit_words a site factory (drop (i + 1) ds))) q ∙ sym (next_digit l i h) ∙ p.left;
      }

  pub digit_end : (l : List ℕ) (i : ℕ) → Digiting a site factory ds n old l i → length ds ≤ i → l ≡ sets old 0 (digit_words a site factory ds)
  unfolding digit_words
  digit_end l i p h = rw (drop_past i ds h) at p.left
