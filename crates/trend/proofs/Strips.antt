-- The strip's commands: none is refused, how many there are, and the host words that they take.
use Prim.Native.Nat.{ℕ, suc, ◌+◌, ◌-◌, ◌*◌, ◌≤◌, ◌<◌}
use mathlib.Core.Path.{◌≡◌, refl, sym, ap, ap₂, ◌∙◌}
use mathlib.Core.Bool.{Bool, true, false, not, ◌&&◌, ◌||◌, cond}
use mathlib.Core.List.{List, [], ◌∷◌}
use native.Mathlib.Omega.{arith}
use native.Mathlib.Nat.{mul-le-mul_right, mul_comm}
use lib.ListN.{length, get_or, length-append}
use lib.Dec.{leb, eqb, leb-zero}
use borrow.Author.Tests.{eqb-true, eqb-false, le-leb}
use Rattle.record.specs.Bytes.{all_zero}
use Rattle.record.proofs.Choice.{both_ways}
use Rattle.screen.specs.Screen.{main_image}
use Rattle.screen.specs.declared.Screen.{Screen}
use Rattle.command.specs.Command.{command_bytes, surface_of, must_be_zero, formed, inside_image, placed, clashes, line_words, words_taken}
use Rattle.wear.specs.Font.{digits_of, glyph_of}
use Rattle.wear.specs.Strip.{column_height, glyph_size, fill_at, glyph_at, column, columns, writes, glyph_words, digit_words, digits_in}
use Rattle.wear.specs.Limits.{command_count}
use Rattle.wear.specs.declared.Ask.{Ask}
use Rattle.wear.proofs.Fonts.{digits_count}
use Rattle.wear.proofs.Words.{glyph_words_count}
use Rattle.trend.proofs.Drawn.{Ok, EachOk, ok_by, ok_append, taken, taken_append}

-- ---- a fill and a glyph that the main image holds
module _ (s : Screen) (narrow : (main_image s).width ≤ 1024) (short : (main_image s).height ≤ 1024) where
  low_colour : (colour : ℕ) → (s.depth ≡ 8 → colour ≤ 255) → (not (eqb s.depth 8) || (leb colour 255 && true)) ≡ true
  low_colour colour f = chosen (eqb s.depth 8) refl
    where
      chosen : (t : Bool) → eqb s.depth 8 ≡ t → (not t || (leb colour 255 && true)) ≡ true
      chosen true e = rw (le-leb colour 255 (f (eqb-true s.depth 8 e))) refl
      chosen false e = refl

  module _ (x y width height : ℕ) (wide : 0 < width) (high : 0 < height) (right : x + width ≤ (main_image s).width) (bottom : y + height ≤ (main_image s).height) where
    pub fill_ok : (colour : ℕ) → colour < 65536 → (s.depth ≡ 8 → colour ≤ 255) → Ok s (fill_at x y width height colour)
    unfolding formed must_be_zero command_bytes all_zero placed surface_of inside_image clashes
    fill_ok colour h f =
        ok_by s (fill_at x y width height colour)
        (record { fits = record { operation = omega arith; surface = omega arith; raster = omega arith; x = omega arith; y = omega arith; width = omega arith; height = omega arith; sx = omega arith; sy = omega arith; colour = h }; key = refl; px = refl; py = refl; pattern = refl })
        refl (λ m. rw (leb-zero s.flag, low_colour colour f) refl) wide high
        (rw (le-leb (x + width) (main_image s).width right, le-leb (y + height) (main_image s).height bottom) refl) refl

  pub glyph_ok : (x y : ℕ) → x + glyph_size ≤ (main_image s).width → y + glyph_size ≤ (main_image s).height → Ok s (glyph_at x y)
  unfolding formed must_be_zero command_bytes all_zero placed surface_of inside_image clashes
  glyph_ok x y right bottom =
      ok_by s (glyph_at x y)
      (record { fits = record { operation = omega arith; surface = omega arith; raster = omega arith; x = omega arith; y = omega arith; width = omega arith; height = omega arith; sx = omega arith; sy = omega arith; colour = omega arith }; key = refl; px = refl; py = refl; pattern = refl })
      refl (λ m. rw (leb-zero s.flag, low_colour 0 (λ e. omega arith)) refl) (omega arith) (omega arith)
      (rw (le-leb (x + glyph_size) (main_image s).width right, le-leb (y + glyph_size) (main_image s).height bottom) refl) refl

  module _ (a : Ask) (wide : 0 < a.column) (bar : a.bar < 65536) (background : a.background < 65536) (bar_low : s.depth ≡ 8 → a.bar ≤ 255) (background_low : s.depth ≡ 8 → a.background ≤ 255) where
    module _ (right : a.x + a.hours * a.column ≤ (main_image s).width) (bottom : a.y + column_height ≤ (main_image s).height) where
      column_ok : (c h : ℕ) → c < a.hours → h ≤ 100 → EachOk s (column a c h)
      unfolding column EachOk
      column_ok c h k few =
          let ends : a.x + c * a.column + a.column ≤ (main_image s).width = omega (arith, mul-le-mul_right a.column k, right) in (
            fill_ok (a.x + c * a.column) a.y a.column column_height wide (omega arith) ends bottom a.background background background_low,
            both_ways (EachOk s) (eqb h 0) [] (fill_at (a.x + c * a.column) (a.y + column_height - h) a.column h a.bar ∷ []) (λ e. tt)
                (λ e.
                let some : 0 < h = omega (arith, eqb-false h 0 e) in
                (fill_ok (a.x + c * a.column) (a.y + column_height - h) a.column h wide some ends (omega arith) a.bar bar bar_low, tt)),
          )

      pub columns_ok : (c : ℕ) (hs : List ℕ) → c + length hs ≤ a.hours → ((k : ℕ) → get_or hs k 0 ≤ 100) → EachOk s (columns a c hs)
      unfolding columns EachOk
      columns_ok c [] few h = tt
      columns_ok c (x ∷ hs) few h =
          ok_append s (column a c x) (columns a (suc c) hs) (column_ok c x (omega arith) (h 0)) (columns_ok (suc c) hs (omega arith) (λ k. h (suc k)))

    module _ (n : ℕ) (right : a.x + n * glyph_size ≤ (main_image s).width) (bottom : a.y + column_height + glyph_size ≤ (main_image s).height) where
      pub writes_ok : (i : ℕ) (ds : List ℕ) → i + length ds ≤ n → EachOk s (writes a i ds)
      unfolding writes EachOk
      writes_ok i [] few = tt
      writes_ok i (d ∷ ds) few = (glyph_ok (a.x + i * glyph_size) (a.y + column_height) (omega arith) bottom, writes_ok (suc i) ds (omega arith))

-- ---- the host words
module _ (s : Screen) (a : Ask) where
  column_takes : (c h : ℕ) → taken s (column a c h) ≡ 0
  unfolding column taken words_taken
  column_takes c h = chosen (eqb h 0)
    where
      chosen : (t : Bool) → taken s (fill_at (a.x + c * a.column) a.y a.column column_height a.background ∷ cond t [] (fill_at (a.x + c * a.column) (a.y + column_height - h) a.column h a.bar ∷ [])) ≡ 0
      chosen true = refl
      chosen false = refl

  pub columns_take : (c : ℕ) (hs : List ℕ) → taken s (columns a c hs) ≡ 0
  unfolding columns taken
  columns_take c [] = refl
  columns_take c (h ∷ hs) = taken_append s (column a c h) (columns a (suc c) hs) ∙ ap₂ (λ (x y : ℕ). x + y) (column_takes c h) (columns_take (suc c) hs)

  pub glyph_takes : (x y : ℕ) → words_taken s (glyph_at x y) ≡ glyph_size * line_words s.depth glyph_size
  unfolding words_taken
  glyph_takes x y = mul_comm (line_words s.depth glyph_size) glyph_size

  -- the digits' words are as many as their writes take
  pub writes_take : s.depth ≡ a.depth → (site factory : List ℕ) (i : ℕ) (ds : List ℕ) → taken s (writes a i ds) ≡ length (digit_words a site factory ds)
  unfolding writes taken digit_words
  writes_take e site factory i [] = refl
  writes_take e site factory i (d ∷ ds) =
      ap₂ (λ (x y : ℕ). x + y) (glyph_takes (a.x + i * glyph_size) (a.y + column_height) ∙ ap (λ (n : ℕ). glyph_size * line_words n glyph_size) e ∙ sym (glyph_words_count a (glyph_of site factory d)))
      (writes_take e site factory (suc i) ds)
      ∙ sym (length-append (glyph_words a (glyph_of site factory d)) (digit_words a site factory ds))

-- ---- how many
pub count_low : (hs : List ℕ) → command_count hs ≤ 2 * length hs
unfolding command_count
count_low [] = omega arith
count_low (h ∷ hs) = chosen (eqb h 0) (count_low hs)
  where
    chosen : (t : Bool) → command_count hs ≤ 2 * length hs → cond t 1 2 + command_count hs ≤ 2 * suc (length hs)
    chosen true k = omega arith
    chosen false k = omega arith

-- at most five digits
pub digits_few : (any newest : ℕ) → length (digits_in any newest) ≤ 5
digits_few any newest = both_ways (λ (l : List ℕ). length l ≤ 5) (eqb any 0) [] (digits_of newest) (λ e. omega arith) (λ e. digits_count 5 newest)
