-- Copy direction: a blit whose pixels are read before they are overwritten is the pointwise account. A move is such a blit in
-- positive direction where its destination is not above its source, and in negative direction where it is.
use mathlib.Core.Path.{◌≡◌, refl, sym, ap, ap₂, ◌∙◌, subst}
use mathlib.Core.Bool.{false}
use mathlib.Core.Logic.{◌⊎◌, inl, inr, ⊎_elim}
use mathlib.Core.List.{List}
use Prim.Native.Nat.{ℕ, zero, suc, ◌+◌, ◌-◌, ◌*◌, ◌≤◌, ◌<◌}
use native.Mathlib.Nat.{add-mul, suc-mul, zero-mul}
use native.Mathlib.Omega.{arith}
use borrow.Author.Tests.{lt-ltb, le-ltb}
use lib.ListN.{length}
use Rattle.pixel.specs.Pixel.{get_pixel, put_pixel, byte_of}
use Rattle.pixel.proofs.Pixels.{get_ext}
use Rattle.blit.specs.Blit.{Blit, Source, given, memory, Direction, positive, negative, along, offset, source_pixel, pixels, chip_line, chip_lines, chip_blit, direction_of, shifted, last_offset, from_last, starting}
use Rattle.blit.specs.Rectangle.{inside, painted_pixel, painted}
use Rattle.blit.proofs.Runs.{below_or_not, step_fits, length_pixels}
use Rattle.blit.proofs.Painted.{Fits, painted_hit, painted_gap, painted_before, painted_after}
use Rattle.blit.proofs.Frontier.{Between, at_first, at_last, wider, between_out, upward, downward}

-- ---- lengths

pub length_line : (b : Blit) (dir : Direction) (j n : ℕ) (m : List ℕ) → length (chip_line b dir j n m) ≡ length m
unfolding chip_line
length_line b dir j n m = length_pixels _ _ _ _ n m

pub length_lines : (b : Blit) (dir : Direction) (n : ℕ) (m : List ℕ) → length (chip_lines b dir n m) ≡ length m
unfolding chip_lines
length_lines b dir zero m = refl
length_lines b dir (suc n) m = length_line b dir n b.width (chip_lines b dir n m) ∙ length_lines b dir n m

pub length_blit : (b : Blit) (dir : Direction) (m : List ℕ) → length (chip_blit b dir m) ≡ length m
unfolding chip_blit
length_blit b dir m = length_lines b dir b.height m

-- ---- sources that are read in time

-- byte a of the source pixel of pixel i of line j
abbrev pub OfSource : Blit → ℕ → ℕ → ℕ → ℕ → Type 0
OfSource b s i j a = (i < b.width) × (j < b.height) × (s + offset b i j ≤ a) × (a < s + offset b i j + b.bytes)

-- upwards: each byte of a source pixel lies at or past the destination pixel, or outside the rectangle
abbrev pub Ahead : Blit → Source → Type 0
Ahead b (given f) = Unit {0}
Ahead b (memory s) = (i j a : ℕ) → OfSource b s i j a → (b.destination + offset b i j ≤ a) ⊎ (inside b a ≡ false)

-- downwards: it lies before the end of the destination pixel, or outside the rectangle
abbrev pub Behind : Blit → Source → Type 0
Behind b (given f) = ⊥
Behind b (memory s) = (i j a : ℕ) → OfSource b s i j a → (a < b.destination + offset b i j + b.bytes) ⊎ (inside b a ≡ false)

pub ahead_of : (b : Blit) (s : ℕ) → b.destination ≤ s → Ahead b (memory s)
ahead_of b s h i j a o = inl (omega (arith, o.2))

pub behind_of : (b : Blit) (s : ℕ) → s ≤ b.destination → Behind b (memory s)
behind_of b s h i j a o = inl (omega (arith, o.3))

-- a source that shares no byte with the rectangle may be read in either direction
pub apart : (b : Blit) (s : ℕ) → ((i j a : ℕ) → OfSource b s i j a → inside b a ≡ false) → Ahead b (memory s)
apart b s h i j a o = inr (h i j a o)

pub apart_behind : (b : Blit) (s : ℕ) → ((i j a : ℕ) → OfSource b s i j a → inside b a ≡ false) → Behind b (memory s)
apart_behind b s h i j a o = inr (h i j a o)

-- what the chip makes of pixel i of line j
abbrev made : Blit → Direction → List ℕ → ℕ → ℕ → ℕ
made b dir m i j =
    b.combine (source_pixel b.bytes dir m b.source (offset b i j) i j) (get_pixel b.bytes m (along dir b.destination (offset b i j)))

pub painted_pixel_lem : (b : Blit) (old : List ℕ) (i j : ℕ) → made b positive old i j ≡ painted_pixel b old i j
unfolding painted_pixel
painted_pixel_lem b old i j = refl

-- ---- upwards

module _ (b : Blit) (old : List ℕ) where
  source_ahead : (lo hi : ℕ) (m : List ℕ) (source : Source) (i j : ℕ) → i < b.width → j < b.height → Ahead b source
      → hi ≡ b.destination + offset b i j → Between b old lo hi m
      → source_pixel b.bytes positive m source (offset b i j) i j ≡ source_pixel b.bytes positive old source (offset b i j) i j
  source_ahead lo hi m (given f) i j hi' hj h e w = refl
  source_ahead lo hi m (memory s) i j hi' hj h e w =
      get_ext b.bytes m old (s + offset b i j)
      (λ a p q. ⊎_elim (λ x. w.high a (omega arith)) (λ x. between_out b old lo hi m w a x) (h i j a (hi', hj, p, q)))

  made_ahead : (lo hi : ℕ) (m : List ℕ) (i j : ℕ) → i < b.width → j < b.height → Ahead b b.source
      → hi ≡ b.destination + offset b i j → Between b old lo hi m → made b positive m i j ≡ painted_pixel b old i j
  made_ahead lo hi m i j hi' hj h e w =
      ap₂ b.combine (source_ahead lo hi m b.source i j hi' hj h e w)
      (get_ext b.bytes m old (b.destination + offset b i j) (λ a p q. w.high a (omega arith)))
      ∙ painted_pixel_lem b old i j

  module _ (f : Fits b old) (ahead : Ahead b b.source) where
    line_up : (j : ℕ) → j < b.height → (m : List ℕ) → Between b old b.destination (b.destination + (j * b.line + 0)) m
        → (n : ℕ) → n ≤ b.width
        → Between b old b.destination (b.destination + (j * b.line + n * b.bytes)) (chip_line b positive j n m)
    unfolding chip_line pixels
    line_up j hj m w zero h = rw zero-mul w
    line_up j hj m w (suc n) h =
        let m' : List ℕ = chip_line b positive j n m in
        let w' : Between b old b.destination (b.destination + offset b n j) m' = line_up j hj m w n (omega arith) in
        let e : made b positive m' n j ≡ painted_pixel b old n j =
        made_ahead b.destination (b.destination + offset b n j) m' n j h hj ahead refl w' in
        let top : b.destination + offset b n j + b.bytes ≡ b.destination + (j * b.line + suc n * b.bytes) = omega (arith, suc-mul n b.bytes) in
        subst (λ (x : ℕ). Between b old b.destination x (put_pixel b.bytes m' (b.destination + offset b n j) (made b positive m' n j))) top
        (upward b old (b.destination + offset b n j) (made b positive m' n j) m'
        (omega (arith, f.in_memory j hj, step_fits b.bytes n b.width h))
        (λ k hk. painted_hit b old f n j k h hj hk ∙ ap (byte_of k) (sym e))
        b.destination (omega arith) w')

    lines_up : (n : ℕ) → n ≤ b.height → Between b old b.destination (b.destination + (n * b.line + 0)) (chip_lines b positive n old)
    unfolding chip_lines
    lines_up zero h = at_first b old b.destination (b.destination + (0 * b.line + 0)) (omega (arith, zero-mul b.line))
    lines_up (suc n) h =
        let m : List ℕ = chip_lines b positive n old in
        let w : Between b old b.destination (b.destination + (n * b.line + b.width * b.bytes)) (chip_line b positive n b.width m) =
        line_up n h m (lines_up n (omega arith)) b.width (omega arith) in
        wider b old b.destination b.destination (b.destination + (n * b.line + b.width * b.bytes)) (b.destination + (suc n * b.line + 0))
        (chip_line b positive n b.width m)
        (omega arith) (omega (arith, suc-mul n b.line, f.in_line))
        (λ a p q. absurd (omega arith))
        (λ a p q. painted_gap b old f n a p (omega (arith, suc-mul n b.line)))
        w

    pub positive_is_painted : chip_blit b positive old ≡ painted b old
    unfolding chip_blit
    positive_is_painted =
        at_last b old b.destination (b.destination + (b.height * b.line + 0)) (chip_lines b positive b.height old)
        (lines_up b.height (omega arith))
        (painted_before b old f)
        (λ a p. painted_after b old f a (omega arith))

-- ---- downwards

-- pixel n of line j, counted from the lower right, is pixel i of line k from the upper left
from_last_lem : (b : Blit) (x i k n j : ℕ) → i + suc n ≡ b.width → k + suc j ≡ b.height → x + last_offset b - offset b n j ≡ x + offset b i k
from_last_lem b x i k n j ei ek =
    let w : b.width - 1 ≡ i + n = omega arith in
    let h : b.height - 1 ≡ k + j = omega arith in
    rw (w, h) (simp add-mul (omega arith))

module _ (b : Blit) (old : List ℕ) where
  source_behind : (lo hi : ℕ) (m : List ℕ) (source : Source) (i k n j : ℕ) → i + suc n ≡ b.width → k + suc j ≡ b.height → Behind b source
      → lo ≡ b.destination + offset b i k + b.bytes → Between b old lo hi m
      → source_pixel b.bytes negative m (shifted (last_offset b) source) (offset b n j) n j
      ≡ source_pixel b.bytes positive old source (offset b i k) i k
  source_behind lo hi m (given f) i k n j ei ek h e w = absurd h
  source_behind lo hi m (memory s) i k n j ei ek h e w =
      ap (get_pixel b.bytes m) (from_last_lem b s i k n j ei ek)
      ∙ get_ext b.bytes m old (s + offset b i k)
      (λ a p q. ⊎_elim (λ x. w.low a (omega arith)) (λ x. between_out b old lo hi m w a x) (h i k a (omega arith, omega arith, p, q)))

  made_behind : (lo hi : ℕ) (m : List ℕ) (i k n j : ℕ) → i + suc n ≡ b.width → k + suc j ≡ b.height → Behind b b.source
      → lo ≡ b.destination + offset b i k + b.bytes → Between b old lo hi m → made (from_last b) negative m n j ≡ painted_pixel b old i k
  made_behind lo hi m i k n j ei ek h e w =
      ap₂ b.combine (source_behind lo hi m b.source i k n j ei ek h e w)
      (ap (get_pixel b.bytes m) (from_last_lem b b.destination i k n j ei ek)
      ∙ get_ext b.bytes m old (b.destination + offset b i k) (λ a p q. w.low a (omega arith)))
      ∙ painted_pixel_lem b old i k

  module _ (f : Fits b old) (behind : Behind b b.source) (hi : ℕ) (top : hi ≡ b.destination + b.height * b.line) where
    line_down : (j k : ℕ) → k + suc j ≡ b.height → (m : List ℕ) → Between b old (b.destination + (k * b.line + b.width * b.bytes)) hi m
        → (n i : ℕ) → i + n ≡ b.width
        → Between b old (b.destination + (k * b.line + i * b.bytes)) hi (chip_line (from_last b) negative j n m)
    unfolding chip_line pixels
    line_down j k ek m w zero i ei = let e : i ≡ b.width = omega arith in rw e w
    line_down j k ek m w (suc n) i ei =
        let m' : List ℕ = chip_line (from_last b) negative j n m in
        let p : ℕ = b.destination + offset b i k in
        let e : b.destination + (k * b.line + suc i * b.bytes) ≡ p + b.bytes = omega (arith, suc-mul i b.bytes) in
        let w' : Between b old (p + b.bytes) hi m' =
        subst (λ (x : ℕ). Between b old x hi m') e (line_down j k ek m w n (suc i) (omega arith)) in
        let fit : i * b.bytes + b.bytes ≤ b.width * b.bytes = step_fits b.bytes i b.width (omega arith) in
        let under : k * b.line + b.line ≤ b.height * b.line = step_fits b.line k b.height (omega arith) in
        subst (λ (x : List ℕ). Between b old p hi x)
        (ap₂ (put_pixel b.bytes m') (sym (from_last_lem b b.destination i k n j ei ek))
        (sym (made_behind (p + b.bytes) hi m' i k n j ei ek behind refl w')))
        (downward b old p (painted_pixel b old i k) m'
        (omega (arith, f.in_memory k (omega arith)))
        (λ l hl. painted_hit b old f i k l (omega arith) (omega arith) hl)
        hi (omega (arith, f.in_line)) w')

    lines_down : (n k : ℕ) → k + n ≡ b.height → Between b old (b.destination + k * b.line) hi (chip_lines (from_last b) negative n old)
    unfolding chip_lines
    lines_down zero k ek =
        let e : k ≡ b.height = omega arith in
        at_first b old (b.destination + k * b.line) hi (rw e (omega arith))
    lines_down (suc n) k ek =
        let m : List ℕ = chip_lines (from_last b) negative n old in
        let w : Between b old (b.destination + (k * b.line + b.width * b.bytes)) hi m =
        wider b old (b.destination + suc k * b.line) (b.destination + (k * b.line + b.width * b.bytes)) hi hi m
        (omega (arith, suc-mul k b.line, f.in_line)) (omega arith)
        (λ a p q. painted_gap b old f k a p (omega (arith, suc-mul k b.line)))
        (λ a p q. absurd (omega arith))
        (lines_down n (suc k) (omega arith)) in
        let z : b.destination + (k * b.line + 0 * b.bytes) ≡ b.destination + k * b.line = omega (arith, zero-mul b.bytes) in
        subst (λ (x : ℕ). Between b old x hi (chip_line (from_last b) negative n b.width m)) z
        (line_down n k ek m w b.width 0 (omega arith))

  pub negative_is_painted : Fits b old → Behind b b.source → chip_blit (from_last b) negative old ≡ painted b old
  unfolding chip_blit
  negative_is_painted f behind =
      at_last b old (b.destination + 0 * b.line) (b.destination + b.height * b.line) (chip_lines (from_last b) negative b.height old)
      (lines_down f behind (b.destination + b.height * b.line) refl b.height 0 (omega arith))
      (λ a p. painted_before b old f a (omega (arith, zero-mul b.line)))
      (painted_after b old f)

-- ---- the direction that is chosen

-- a move goes in the direction that its addresses name
pub chip_is_painted : (b : Blit) (old : List ℕ) → Fits b old → (s : ℕ) → b.source ≡ memory s
    → chip_blit (starting (direction_of b.destination s) b) (direction_of b.destination s) old ≡ painted b old
chip_is_painted b old f s e =
    ⊎_elim
    (λ p. rw (lt-ltb s b.destination p) (negative_is_painted b old f (subst (Behind b) (sym e) (behind_of b s (omega arith)))))
    (λ p. rw (le-ltb s b.destination p) (positive_is_painted b old f (subst (Ahead b) (sym e) (ahead_of b s p))))
    (below_or_not s b.destination)

-- a fill or write goes upwards
pub given_is_painted : (b : Blit) (old : List ℕ) → Fits b old → (f : ℕ → ℕ → ℕ) → b.source ≡ given f → chip_blit b positive old ≡ painted b old
given_is_painted b old f g e = positive_is_painted b old f (subst (Ahead b) (sym e) tt)
