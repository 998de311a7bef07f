-- What acceptance of a command says.
use Prim.Native.Nat.{ℕ, ◌+◌, ◌%◌, ◌<◌, ◌≤◌}
use mathlib.Core.Path.{◌≡◌, refl, sym, ap, ◌∙◌}
use mathlib.Core.List.{List}
use mathlib.Core.Bool.{Bool, true, false, not, ◌&&◌, ◌||◌, cond, and-eq-true_iff}
use mathlib.Core.Logic.{◌⊎◌, inl, inr, ⊎_elim}
use native.Mathlib.Omega.{arith}
use lib.Dec.{eqb, leb, ltb}
use lib.ListN.{length}
use borrow.Author.Tests.{eqb-true, eq-eqb, eqb-false, leb-true, ltb-false, not-false}
use Rattle.record.specs.Bytes.{all_zero}
use Rattle.record.specs.Checks.{AllPass}
use Rattle.record.proofs.Checks.{none}
use Rattle.record.proofs.Choice.{and_left, and_right}
use Rattle.screen.specs.declared.Image.{Image}
use Rattle.screen.specs.declared.Screen.{Screen}
use Rattle.command.specs.Command.{command_of, surface_of, destination_of, source_of, last_operation, must_be_zero, pattern_size, pattern_fits, formed, inside_image, placed, rectangle_at, pattern_at, clashes, words_taken, command_rows, refusal}
use Rattle.command.specs.Sharing.{share_byte}
use Rattle.command.specs.declared.Command.{Command}
use Rattle.command.proofs.Answer.{command_numbered}
use Rattle.command.proofs.Operation.{by_fill, by_move, by_write, by_pattern, by_keyed, by_transparent}

-- a rectangle at (x, y) lies in an image
pub record Inside (i : Image) (x y width height : ℕ) : Type 0 where
  pub right : x + width ≤ i.width
  pub bottom : y + height ≤ i.height

-- a command whose source is on the surface, and one that has a pattern
abbrev pub Moves : Command → Type 0
Moves c = (c.operation ≡ 1) ⊎ (c.operation ≡ 5)

abbrev pub Patterned : Command → Type 0
Patterned c = (c.operation ≡ 3) ⊎ (c.operation ≡ 4)

-- a pattern in a memory of m bytes
pub record PatternIn (m : ℕ) (s : Screen) (c : Command) : Type 0 where
  pub column : c.px ≤ 7
  pub line : c.py ≤ 7
  pub whole : c.pattern % pattern_size s.depth ≡ 0
  pub ends : c.pattern + pattern_size s.depth ≤ m

-- an accepted command, with so many host words left, in a memory of m bytes
pub record Fine (m : ℕ) (s : Screen) (left : ℕ) (c : Command) : Type 0 where
  pub operation : c.operation ≤ 5
  pub surface : c.surface ≤ s.flag
  pub raster : c.raster ≤ 15
  pub colour : s.depth ≡ 8 → c.colour ≤ 255
  pub key : s.depth ≡ 8 → c.key ≤ 255
  pub fill : c.operation ≡ 0 → (c.raster ≡ 0) × (c.sx ≡ 0) × (c.sy ≡ 0)
  pub move : c.operation ≡ 1 → c.colour ≡ 0
  pub write : c.operation ≡ 2 → (c.sx ≡ 0) × (c.sy ≡ 0) × (c.colour ≡ 0)
  pub wide : 0 < c.width
  pub high : 0 < c.height
  pub destination : Inside (surface_of s c) c.x c.y c.width c.height
  pub source : Moves c → Inside (surface_of s c) c.sx c.sy c.width c.height
  pub pattern : Patterned c → PatternIn m s c
  pub pattern_apart : Patterned c → share_byte (rectangle_at s c (destination_of s c)) (pattern_at s c) ≡ false
  pub source_apart : c.operation ≡ 5
      → (destination_of s c ≤ source_of s c) ⊎ (share_byte (rectangle_at s c (source_of s c)) (rectangle_at s c (destination_of s c)) ≡ false)
  pub words : words_taken s c ≤ left

-- ---- what each row says where it passes
-- a test that is asked only where t holds
asked : (t b : Bool) → (not t || b) ≡ true → t ≡ true → b ≡ true
asked t b e h = rw h at e

module _ (c : Command) (e : all_zero (must_be_zero c) ≡ true) where
  fill_says : c.operation ≡ 0 → (c.raster ≡ 0) × (c.sx ≡ 0) × (c.sy ≡ 0)
  unfolding must_be_zero all_zero
  fill_says h = let t = simp and-eq-true_iff at (sym (ap all_zero (by_fill c.operation _ _ _ _ _ _ h)) ∙ e) in omega (arith, eqb-true)

  move_says : c.operation ≡ 1 → c.colour ≡ 0
  unfolding must_be_zero all_zero
  move_says h = let t = simp and-eq-true_iff at (sym (ap all_zero (by_move c.operation _ _ _ _ _ _ h)) ∙ e) in omega (arith, eqb-true)

  write_says : c.operation ≡ 2 → (c.sx ≡ 0) × (c.sy ≡ 0) × (c.colour ≡ 0)
  unfolding must_be_zero all_zero
  write_says h = let t = simp and-eq-true_iff at (sym (ap all_zero (by_write c.operation _ _ _ _ _ _ h)) ∙ e) in omega (arith, eqb-true)

inside_says : (i : Image) (x y width height : ℕ) → inside_image i x y width height ≡ true → Inside i x y width height
unfolding inside_image
inside_says i x y width height e =
    let t = simp and-eq-true_iff at e in
    record { right = leb-true (x + width) i.width t.0; bottom = leb-true (y + height) i.height t.1 }

some : (n : ℕ) (b : Bool) → (eqb n 0 || b) ≡ false → (0 < n) × (b ≡ false)
some n b e = chosen (eqb n 0) refl e
  where
    chosen : (t : Bool) → eqb n 0 ≡ t → (t || b) ≡ false → (0 < n) × (b ≡ false)
    chosen true h f = let z : ◌≡◌ {A = ℕ} 0 1 = cc in absurd (omega arith)
    chosen false h f = (above (eqb-false n 0 h), f)
      where
        above : (n ≡ 0 → ⊥) → 0 < n
        above g = omega arith

-- no record has an operation above 5
few_operations : (b : List ℕ) → last_operation b ≤ 5
few_operations b = either (ltb (length b) 48)
  where
    either : (t : Bool) → cond t 2 5 ≤ 5
    either true = omega arith
    either false = omega arith

pattern_says : (m : ℕ) (s : Screen) (c : Command) → pattern_fits m s c ≡ true → PatternIn m s c
unfolding pattern_fits
pattern_says m s c e =
    let t = simp and-eq-true_iff at e in
    record {
      column = leb-true c.px 7 t.0;
      line = leb-true c.py 7 t.1.0;
      whole = eqb-true (c.pattern % pattern_size s.depth) 0 t.1.1.0;
      ends = leb-true (c.pattern + pattern_size s.depth) m t.1.1.1;
    }

-- two addresses and a test: not both
not_both : (a d : ℕ) (b : Bool) → (ltb a d && b) ≡ false → (d ≤ a) ⊎ (b ≡ false)
not_both a d b e = by_test (ltb a d) refl e
  where
    by_test : (t : Bool) → ltb a d ≡ t → (t && b) ≡ false → (d ≤ a) ⊎ (b ≡ false)
    by_test true h f = inr f
    by_test false h f = inl (ltb-false a d h)

module _ (m : ℕ) (s : Screen) (c : Command) where
  source_says : placed s c ≡ true → Moves c → Inside (surface_of s c) c.sx c.sy c.width c.height
  unfolding placed
  source_says e h =
      let i = and_right (inside_image (surface_of s c) c.x c.y c.width c.height) _ e in
      inside_says (surface_of s c) c.sx c.sy c.width c.height
      (⊎_elim (λ z. sym (by_move c.operation _ _ _ _ _ _ z) ∙ i) (λ z. sym (by_transparent c.operation _ _ _ _ _ _ z) ∙ i) h)

  apart_says : clashes s c ≡ false → Patterned c → share_byte (rectangle_at s c (destination_of s c)) (pattern_at s c) ≡ false
  unfolding clashes
  apart_says e h = ⊎_elim (λ z. sym (by_pattern c.operation _ _ _ _ _ _ z) ∙ e) (λ z. sym (by_keyed c.operation _ _ _ _ _ _ z) ∙ e) h

  order_says : clashes s c ≡ false → c.operation ≡ 5
      → (destination_of s c ≤ source_of s c) ⊎ (share_byte (rectangle_at s c (source_of s c)) (rectangle_at s c (destination_of s c)) ≡ false)
  unfolding clashes
  order_says e h = not_both (source_of s c) (destination_of s c) _ (sym (by_transparent c.operation _ _ _ _ _ _ h) ∙ e)

-- no number: the command is fine
pub fine : (m : ℕ) (s : Screen) (left : ℕ) (b : List ℕ) → refusal m s left b ≡ 0 → Fine m s left (command_of b)
unfolding refusal command_rows AllPass formed placed
fine m s left b e =
    let c = command_of b in
    let p = none (command_rows m s left b c) (command_numbered m s left b c) e in
    let f = simp and-eq-true_iff at (not-false (formed m s b c) p.0) in
    let w = some c.width (eqb c.height 0) p.1.0 in
    let i = not-false (placed s c) p.1.1.0 in
    let few : s.depth ≡ 8 → (leb c.colour 255 && leb c.key 255) ≡ true = λ h. asked (eqb s.depth 8) _ f.1.1.1.0 (eq-eqb s.depth 8 h) in
    let hatch = f.1.1.1.1.1.1.1.1 in
    record {
      operation = omega (arith, leb-true c.operation (last_operation b) f.0, few_operations b);
      surface = leb-true c.surface s.flag f.1.0;
      raster = leb-true c.raster 15 f.1.1.0;
      colour = λ h. leb-true c.colour 255 (and_left (leb c.colour 255) _ (few h));
      key = λ h. leb-true c.key 255 (and_right (leb c.colour 255) _ (few h));
      fill = fill_says c f.1.1.1.1.0;
      move = move_says c f.1.1.1.1.0;
      write = write_says c f.1.1.1.1.0;
      wide = w.0;
      high = omega (arith, eqb-false c.height 0 w.1);
      destination = inside_says (surface_of s c) c.x c.y c.width c.height (and_left (inside_image (surface_of s c) c.x c.y c.width c.height) _ i);
      source = source_says m s c i;
      pattern = λ h. pattern_says m s c (⊎_elim (λ z. sym (by_pattern c.operation _ _ _ _ _ _ z) ∙ hatch) (λ z. sym (by_keyed c.operation _ _ _ _ _ _ z) ∙ hatch) h);
      pattern_apart = apart_says m s c p.1.1.1.0;
      source_apart = order_says m s c p.1.1.1.0;
      words = ltb-false left (words_taken s c) p.1.1.1.1.0;
    }
