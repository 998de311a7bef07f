-- A pixel of the main image after commands that miss it, and after the strip's columns.
use Prim.Native.Nat.{ℕ, zero, suc, ◌+◌, ◌-◌, ◌*◌, ◌%◌, ◌^◌, ◌≤◌, ◌<◌}
use mathlib.Core.Path.{◌≡◌, refl, sym, ap, ◌∙◌}
use mathlib.Core.Bool.{Bool, true, false, ◌&&◌, cond}
use mathlib.Core.List.{List, [], ◌∷◌, ◌++◌}
use native.Mathlib.Omega.{arith}
use native.Mathlib.Nat.{mod-eq_of_lt}
use lib.ListN.{length, get_or, take, drop}
use lib.Dec.{leb, eqb}
use borrow.Author.Tests.{leb-true, leb-false, ltb-true, le-leb, lt-ltb, lt-leb, eq-eqb, eqb-true}
use Rattle.record.proofs.Choice.{and_left, and_right, both_ways}
use Rattle.screen.specs.Screen.{main_image}
use Rattle.screen.specs.declared.Screen.{Screen}
use Rattle.view.specs.View.{pixel_at, among}
use Rattle.command.specs.Command.{surface_of, words_taken}
use Rattle.command.specs.declared.Command.{Command}
use Rattle.unit.specs.Sheet.{sheet_pixel, sheet_command}
use Rattle.unit.proofs.Painted.{OneOrTwo}
use Rattle.unit.proofs.Drawable.{Surface}
use Rattle.unit.proofs.Listed.{length_sheet}
use Rattle.wear.specs.Strip.{column_height, fill_at, column, columns}
use Rattle.wear.specs.declared.Ask.{Ask}
use Rattle.trend.proofs.Pixels.{covers, pixel_new, pixel_kept, fill_new}
use Rattle.trend.proofs.Drawn.{taken, drawn, length_drawn, drawn_append}

-- ---- numbers from a on, as tests
pub among_says : (a n t : ℕ) → among a n t ≡ true → (a ≤ t) × (t < a + n)
among_says a n t e = (leb-true a t (and_left (leb a t) _ e), ltb-true t (a + n) (and_right (leb a t) _ e))

pub among_is : (a n t : ℕ) → a ≤ t → t < a + n → among a n t ≡ true
among_is a n t p q = rw (le-leb a t p, lt-ltb t (a + n) q)

pub both_true : (a b : Bool) → a ≡ true → b ≡ true → (a && b) ≡ true
both_true a b p q = rw (p, q)

pub not_so : (t : Bool) → (t ≡ true → ⊥) → t ≡ false
not_so true f = absurd (f refl)
not_so false f = refl

module _ (u v : ℕ) where
  -- a command does not cover the pixel where its sides rule that out
  pub not_covered : (c : Command) → (c.x ≤ u → u < c.x + c.width → c.y ≤ v → v < c.y + c.height → ⊥) → covers c u v ≡ false
  not_covered c f =
      not_so (covers c u v)
      (λ e.
      let p = among_says c.x c.width u (and_left (among c.x c.width u) _ e) in
      let q = among_says c.y c.height v (and_right (among c.x c.width u) _ e) in
      f p.0 p.1 q.0 q.1)

  pub covered : (c : Command) → c.x ≤ u → u < c.x + c.width → c.y ≤ v → v < c.y + c.height → covers c u v ≡ true
  covered c p q r t = both_true (among c.x c.width u) (among c.y c.height v) (among_is c.x c.width u p q) (among_is c.y c.height v r t)

  -- commands on the main image, none of which covers the pixel
  unfoldable pub MissedBy : List Command → Type 0
  MissedBy [] = Unit {0}
  MissedBy (c ∷ cs) = (c.surface ≡ 0) × (covers c u v ≡ false) × MissedBy cs

  pub missed_append : (a b : List Command) → MissedBy a → MissedBy b → MissedBy (a ++ b)
  unfolding MissedBy
  missed_append [] b p q = q
  missed_append (c ∷ a) b p q = (p.0, p.1, missed_append a b p.2 q)

  -- columns miss a pixel that is not theirs
  module _ (a : Ask) where
    column_misses : (c h : ℕ) → h ≤ 100 → (a.x + c * a.column ≤ u → u < a.x + c * a.column + a.column → a.y ≤ v → v < a.y + column_height → ⊥) → MissedBy (column a c h)
    unfolding column MissedBy
    column_misses c h few out = (
      refl,
      not_covered (fill_at (a.x + c * a.column) a.y a.column column_height a.background) (λ p q r t. out p q r t),
      both_ways MissedBy (eqb h 0) [] (fill_at (a.x + c * a.column) (a.y + column_height - h) a.column h a.bar ∷ []) (λ e. tt)
          (λ e. (refl, not_covered (fill_at (a.x + c * a.column) (a.y + column_height - h) a.column h a.bar) (λ p q r t. out p q (omega arith) (omega arith)), tt)),
    )

    pub columns_miss : (c : ℕ) (hs : List ℕ) → ((k : ℕ) → get_or hs k 0 ≤ 100)
        → (a.x + c * a.column ≤ u → u < a.x + (c + length hs) * a.column → a.y ≤ v → v < a.y + column_height → ⊥) → MissedBy (columns a c hs)
    unfolding columns MissedBy
    columns_miss c [] few out = tt
    columns_miss c (h ∷ hs) few out =
        missed_append (column a c h) (columns a (suc c) hs) (column_misses c h (few 0) (λ p q r t. out p (omega arith) r t))
        (columns_miss (suc c) hs (λ k. few (suc k)) (λ p q r t. out (omega arith) (omega arith) r t))

-- ---- the pixel after commands
module _ (m B : ℕ) (s : Screen) (o : Surface m B (main_image s)) (deep : s.depth ≡ 8 * B) (size : OneOrTwo B)
    (u v : ℕ) (hu : u < (main_image s).width) (hv : v < (main_image s).height) where
  -- the pixel of a sheet
  abbrev pub shade : List ℕ → ℕ
  shade sheet = sheet_pixel s.depth (main_image s) sheet (pixel_at u v)

  on_main : (c : Command) → c.surface ≡ 0 → surface_of s c ≡ main_image s
  unfolding surface_of
  on_main c e = rw (eq-eqb c.surface 0 e) refl

  pub missed : (cs : List Command) → MissedBy u v cs → (words old : List ℕ) → length old ≡ m → shade (drawn s cs words old) ≡ shade old
  unfolding MissedBy drawn
  missed [] p words old len = refl
  missed (c ∷ cs) p words old len =
      missed cs p.2 (drop (words_taken s c) words) (sheet_command s c (take (words_taken s c) words) old) (length_sheet s c (take (words_taken s c) words) old ∙ len)
      ∙ pixel_kept m B s o deep size c (on_main c p.0) (take (words_taken s c) words) old len u v hu hv p.1

  -- a fill over it
  fill_shade : (x y width height colour : ℕ) → colour < 256 ^ B → x ≤ u → u < x + width → y ≤ v → v < y + height → (words old : List ℕ) → length old ≡ m
      → shade (sheet_command s (fill_at x y width height colour) words old) ≡ colour
  fill_shade x y width height colour low p q r t words old len =
      let c = fill_at x y width height colour in
      pixel_new m B s o deep size c (on_main c refl) words old len u v hu hv (covered u v c p q r t)
      ∙ ap (λ (n : ℕ). n % 256 ^ B) (fill_new s words old x y width height colour (u - x) (v - y)) ∙ mod-eq_of_lt low

  module _ (a : Ask) (bar : a.bar < 256 ^ B) (background : a.background < 256 ^ B) where
    -- line l of its own column
    module _ (c h l : ℕ) (few : h ≤ 100) (left : a.x + c * a.column ≤ u) (right : u < a.x + c * a.column + a.column) (line : v ≡ a.y + l) (low : l < column_height) where
      abbrev x : ℕ
      x = a.x + c * a.column

      abbrev back : Command
      back = fill_at x a.y a.column column_height a.background

      abbrev front : Command
      front = fill_at x (a.y + column_height - h) a.column h a.bar

      back_shade : (words old : List ℕ) → length old ≡ m → shade (sheet_command s back words old) ≡ a.background
      back_shade words old len = fill_shade x a.y a.column column_height a.background background left right (omega arith) (omega arith) words old len

      front_shade : (words old : List ℕ) → length old ≡ m → (t : Bool) → leb column_height (l + h) ≡ t → shade (sheet_command s front words old) ≡ cond t a.bar (shade old)
      front_shade words old len true e =
          let up = leb-true column_height (l + h) e in
          fill_shade x (a.y + column_height - h) a.column h a.bar bar left right (omega arith) (omega arith) words old len
      front_shade words old len false e =
          let up = leb-false column_height (l + h) e in
          pixel_kept m B s o deep size front (on_main front refl) words old len u v hu hv (not_covered u v front (λ p q r t. omega arith))

      column_drawn : (words old : List ℕ) → length old ≡ m → (t : Bool) → eqb h 0 ≡ t
          → shade (drawn s (back ∷ cond t [] (front ∷ [])) words old) ≡ cond (leb column_height (l + h)) a.bar a.background
      unfolding drawn
      column_drawn words old len true e =
          let none : leb column_height (l + h) ≡ false = lt-leb column_height (l + h) (omega (arith, eqb-true h 0 e)) in
          back_shade (take (words_taken s back) words) old len ∙ sym (ap (λ (t : Bool). cond t a.bar a.background) none)
      column_drawn words old len false e =
          let before = sheet_command s back (take (words_taken s back) words) old in
          let rest = drop (words_taken s back) words in
          front_shade (take (words_taken s front) rest) before (length_sheet s back (take (words_taken s back) words) old ∙ len) (leb column_height (l + h)) refl
          ∙ ap (λ (n : ℕ). cond (leb column_height (l + h)) a.bar n) (back_shade (take (words_taken s back) words) old len)

      column_shade : (words old : List ℕ) → length old ≡ m → shade (drawn s (column a c h) words old) ≡ cond (leb column_height (l + h)) a.bar a.background
      unfolding column
      column_shade words old len = column_drawn words old len (eqb h 0) refl

    -- column k of those from column c on
    pub columns_shade : (c : ℕ) (hs : List ℕ) → ((k : ℕ) → get_or hs k 0 ≤ 100) → (k l : ℕ) → k < length hs
        → a.x + (c + k) * a.column ≤ u → u < a.x + (c + k) * a.column + a.column → v ≡ a.y + l → l < column_height → (words old : List ℕ) → length old ≡ m
        → shade (drawn s (columns a c hs) words old) ≡ cond (leb column_height (l + get_or hs k 0)) a.bar a.background
    unfolding columns
    columns_shade c [] few k l in_List left right line low words old len = absurd (omega arith)
    columns_shade c (h ∷ hs) few zero l in_List left right line low words old len =
        let first = drawn s (column a c h) words old in
        ap shade (drawn_append s (column a c h) (columns a (suc c) hs) words old)
        ∙ missed (columns a (suc c) hs) (columns_miss u v a (suc c) hs (λ k. few (suc k)) (λ p q r t. omega arith)) (drop (taken s (column a c h)) words) first
        (length_drawn s (column a c h) words old ∙ len)
        ∙ column_shade c h l (few 0) (omega arith) (omega arith) line low words old len
    columns_shade c (h ∷ hs) few (suc k) l in_List left right line low words old len =
        let first = drawn s (column a c h) words old in
        ap shade (drawn_append s (column a c h) (columns a (suc c) hs) words old)
        ∙ columns_shade (suc c) hs (λ j. few (suc j)) k l (omega arith) (omega arith) (omega arith) line low (drop (taken s (column a c h)) words) first
        (length_drawn s (column a c h) words old ∙ len)
