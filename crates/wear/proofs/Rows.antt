-- Laws of a glyph's host words: each looked up by the bits of its pixels, and storing them, at depth 8 a line at a time.
use Prim.Native.Nat.{ℕ, zero, suc, ◌+◌, ◌-◌, ◌*◌, ◌/◌, ◌%◌, ◌^◌, ◌<◌, ◌≤◌}
use mathlib.Core.Path.{◌≡◌, refl, ap, ◌∙◌}
use mathlib.Core.Bool.{cond}
use mathlib.Core.List.{List, [], ◌∷◌, ◌++◌}
use native.Mathlib.Nat.{suc-add}
use native.Mathlib.Numerals.{add-one}
use native.Mathlib.Omega.{arith}
use lib.ListN.{length, get_or, set}
use lib.Seq.{sets, length-sets}
use lib.Dec.{eqb}
use borrow.Author.Tests.{eq-eqb, ne_eqb}
use Rattle.record.specs.Bytes.{byte_at}
use Rattle.record.specs.Lists.{tabulate}
use Rattle.record.proofs.Lists.{length_tabulate}
use Rattle.record.proofs.Stores.{sets_append}
use Rattle.command.specs.Command.{line_words}
use Rattle.wear.specs.Font.{glyph_bit}
use Rattle.wear.specs.Strip.{glyph_colour, glyph_word, glyph_words}
use Rattle.wear.specs.declared.Ask.{Ask}

-- ---- a word by the bits of its pixels
abbrev pub colours : Ask → List ℕ
colours a = a.background ∷ a.bar ∷ []

-- two pixels, the left one in the low byte
abbrev pub pair_words : Ask → List ℕ
pair_words a = (a.background + 256 * a.background) ∷ (a.background + 256 * a.bar) ∷ (a.bar + 256 * a.background) ∷ (a.bar + 256 * a.bar) ∷ []

module _ (a : Ask) (g : List ℕ) where
  by_bit : (b : ℕ) → b < 2 → get_or (colours a) b 0 ≡ cond (eqb b 1) a.bar a.background
  by_bit zero h = refl
  by_bit (suc zero) h = refl
  by_bit (suc (suc b)) h = absurd (omega arith)

  by_bits : (v : ℕ) → v < 4 → get_or (pair_words a) v 0 ≡ cond (eqb (v / 2) 1) a.bar a.background + 256 * cond (eqb (v % 2) 1) a.bar a.background
  by_bits zero h = refl
  by_bits (suc zero) h = refl
  by_bits (suc (suc zero)) h = refl
  by_bits (suc (suc (suc zero))) h = refl
  by_bits (suc (suc (suc (suc v)))) h = absurd (omega arith)

  -- word k, i-th of line j
  pair_word : (i j k v : ℕ) (p : List ℕ) → p ≡ pair_words a → a.depth ≡ 8 → k % 4 ≡ i → k / 4 ≡ j → v < 4 → v / 2 ≡ glyph_bit g (2 * i) j → v % 2 ≡ glyph_bit g (2 * i + 1) j → get_or p v 0 ≡ glyph_word a g k
  unfolding glyph_word line_words glyph_colour
  pair_word i j k v p t d m q h x y = rw (t, eq-eqb a.depth 8 d, m, q, ← x, ← y) (by_bits v h)

  colour_word : (i j k v : ℕ) (p : List ℕ) → p ≡ colours a → (a.depth ≡ 8 → ⊥) → k % 8 ≡ i → k / 8 ≡ j → v < 2 → v ≡ glyph_bit g i j → get_or p v 0 ≡ glyph_word a g k
  unfolding glyph_word line_words glyph_colour
  colour_word i j k v p t d m q h x = rw (t, ne_eqb a.depth 8 d, m, q, ← x) (by_bit v h)

-- ---- storing
tabulate_more : (k : ℕ) (f : ℕ → ℕ) → tabulate (suc k) f ≡ tabulate k f ++ (f k ∷ [])
tabulate_more zero f = refl
tabulate_more (suc k) f = ap (λ (l : List ℕ). f 0 ∷ l) (tabulate_more k (λ i. f (suc i)))

-- four more
tabulate_four : (k : ℕ) (f : ℕ → ℕ) → tabulate (k + 4) f ≡ tabulate k f ++ (f k ∷ f (k + 1) ∷ f (k + 2) ∷ f (k + 3) ∷ [])
tabulate_four zero f = refl
tabulate_four (suc k) f = rw (suc-add k 1, suc-add k 2, suc-add k 3, suc-add k 4) (ap (λ (l : List ℕ). f 0 ∷ l) (tabulate_four k (λ i. f (suc i))))

-- k words of a glyph are stored
pub record Glyphing (a : Ask) (g : List ℕ) (at n : ℕ) (old l : List ℕ) (k : ℕ) : Type 0 where
  pub within : k ≤ n
  pub same : length l ≡ length old
  pub stored : l ≡ sets old at (tabulate k (glyph_word a g))

pub glyph_start : (a : Ask) (g : List ℕ) (at n : ℕ) (old : List ℕ) → Glyphing a g at n old old 0
glyph_start a g at n old = record { within = omega arith; same = refl; stored = refl }

module _ (a : Ask) (g : List ℕ) (at : ℕ) (old l : List ℕ) where
  -- four more, at i
  four_turn : (n k i after v w x y : ℕ) (new : List ℕ) → Glyphing a g at n old l k → k + 4 ≤ n → i ≡ at + k → after ≡ k + 4 → new ≡ sets l i (v ∷ w ∷ x ∷ y ∷ [])
      → v ≡ glyph_word a g k → w ≡ glyph_word a g (k + 1) → x ≡ glyph_word a g (k + 2) → y ≡ glyph_word a g (k + 3) → Glyphing a g at n old new after
  four_turn n k i after v w x y new p h e f s ev ew ex ey =
      record {
        within = omega arith;
        same = ap (λ (z : List ℕ). length z) s ∙ length-sets l i (v ∷ w ∷ x ∷ y ∷ []) ∙ p.same;
        stored = s ∙ rw (f, tabulate_four k (glyph_word a g), sets_append, length_tabulate, ← p.stored, e, ev, ew, ex, ey);
      }

  pub glyph_end : (n k : ℕ) → Glyphing a g at n old l k → n ≤ k → n ≡ 8 * line_words a.depth 8 → l ≡ sets old at (glyph_words a g)
  unfolding glyph_words
  glyph_end n k p h e =
      let q : k ≡ 8 * line_words a.depth 8 = omega (arith, p.within) in
      p.stored ∙ ap (λ (x : ℕ). sets old at (tabulate x (glyph_word a g))) q

  -- a line at depth 8
  pub narrow_turn : (j row : ℕ) (pairs new : List ℕ) → a.depth ≡ 8 → pairs ≡ pair_words a → row ≡ byte_at g j → Glyphing a g at 32 old l (4 * j) → j < 8
      → new ≡ sets l (at + 4 * j) (get_or pairs (row / 64 % 4) 0 ∷ get_or pairs (row / 16 % 4) 0 ∷ get_or pairs (row / 4 % 4) 0 ∷ get_or pairs (row % 4) 0 ∷ [])
      → Glyphing a g at 32 old new (4 * (j + 1))
  unfolding glyph_bit
  narrow_turn j row pairs new d t r p h s =
      four_turn 32 (4 * j) (at + 4 * j) (4 * (j + 1)) _ _ _ _ new p (omega arith) refl (omega arith) s
      (pair_word a g 0 j (4 * j) (row / 64 % 4) pairs t d (omega arith) (omega arith) (omega arith) (omega (arith, r)) (omega (arith, r)))
      (pair_word a g 1 j (4 * j + 1) (row / 16 % 4) pairs t d (omega arith) (omega arith) (omega arith) (omega (arith, r)) (omega (arith, r)))
      (pair_word a g 2 j (4 * j + 2) (row / 4 % 4) pairs t d (omega arith) (omega arith) (omega arith) (omega (arith, r)) (omega (arith, r)))
      (pair_word a g 3 j (4 * j + 3) (row % 4) pairs t d (omega arith) (omega arith) (omega arith) (omega (arith, r)) (omega (arith, r)))

  -- a pixel at another depth
  pub pixel_turn : (k row : ℕ) (p : List ℕ) → (a.depth ≡ 8 → ⊥) → p ≡ colours a → row ≡ byte_at g (k / 8) → Glyphing a g at 64 old l k → k < 64 → Glyphing a g at 64 old (set l (at + k) (get_or p (row / 2 ^ (7 - k % 8) % 2) 0)) (k + 1)
  unfolding glyph_bit
  pixel_turn k row p d t r q h =
      let e = colour_word a g (k % 8) (k / 8) k (row / 2 ^ (7 - k % 8) % 2) p t d refl refl (omega arith) (ap (λ (z : ℕ). z / 2 ^ (7 - k % 8) % 2) r) in
      record {
        within = omega arith;
        same = length-sets l (at + k) (get_or p (row / 2 ^ (7 - k % 8) % 2) 0 ∷ []) ∙ q.same;
        stored = rw (add-one, tabulate_more k (glyph_word a g), sets_append, length_tabulate, ← q.stored, e);
      }
