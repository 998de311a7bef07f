-- The wear strip on the panel.
use Prim.Native.Nat.{ℕ, ◌+◌, ◌-◌, ◌*◌, ◌^◌, ◌≤◌, ◌<◌}
use mathlib.Core.Path.{◌≡◌, refl, sym, ap, subst, ◌∙◌}
use mathlib.Core.Bool.{false, cond, true≢false}
use mathlib.Core.List.{List}
use mathlib.Core.Logic.{⊎_elim}
use native.Mathlib.Omega.{arith}
use native.Mathlib.Nat.{zero-add}
use lib.ListN.{length, get_or, drop}
use lib.Dec.{leb}
use Rattle.record.specs.Lists.{AllBelow}
use Rattle.record.specs.Checks.{first_of}
use Rattle.screen.specs.Screen.{memory_size, fields_of, screen_rows, main_image}
use Rattle.screen.specs.declared.Screen.{Screen}
use Rattle.view.specs.View.{pixel_at, among}
use Rattle.unit.specs.Sheet.{sheet_pixel}
use Rattle.ring.specs.Kept.{hour_in, empty_ring, ring_after}
use Rattle.ring.specs.declared.Ring.{Ring}
use Rattle.ring.proofs.Heights.{heights_count, heights_low, heights_at}
use Rattle.ring.proofs.Tells.{ring_tells}
use Rattle.wear.specs.Font.{glyph_of}
use Rattle.wear.specs.Strip.{Strip, strip_for, strip_commands, strip_words, columns, writes, column_height, glyph_size, glyph_colour}
use Rattle.wear.specs.Claims.{strip_after}
use Rattle.wear.specs.declared.Ask.{Ask}
use Rattle.trend.specs.Trend.{Colours, in_columns, in_number, Shown, RingShown, TrendShown}
use Rattle.trend.proofs.Drawn.{drawn, length_drawn, drawn_append}
use Rattle.trend.proofs.Checked.{Known, known}
use Rattle.trend.proofs.Strips.{columns_take, digits_few}
use Rattle.trend.proofs.Columns.{among_is, both_true, MissedBy, missed, columns_miss, columns_shade}
use Rattle.trend.proofs.Numbers.{writes_miss, writes_shade}
use Rattle.trend.proofs.Compiled.{Shaped, compiles, colour_is, shown_in}

-- ---- a strip whose heights are those of its hours by age
module _ (screen : List ℕ) (bytes : AllBelow 256 screen) (t : Strip) (accepts : first_of (screen_rows memory_size screen) ≡ 0) (k : Known screen t) (colours : Colours t.ask) (shaped : Shaped t)
    (height : ℕ → ℕ) (aged : (c : ℕ) → c < t.ask.hours → get_or t.heights c 0 ≡ height (t.ask.hours - 1 - c)) where
  abbrev s : Screen
  s = fields_of screen

  abbrev a : Ask
  a = t.ask

  -- a colour is one of a pixel's
  in_pixel : (colour : ℕ) → colour < 65536 → (a.depth ≡ 8 → colour ≤ 255) → colour < 256 ^ k.B
  in_pixel colour h f =
      ⊎_elim
      (λ e.
      let low : colour < 256 = omega (arith, f (omega (arith, k.same, k.deep))) in
      subst (λ (n : ℕ). colour < 256 ^ n) (sym e) low)
      (λ e. subst (λ (n : ℕ). colour < 256 ^ n) (sym e) h)
      k.size

  bar : a.bar < 256 ^ k.B
  bar = in_pixel a.bar colours.bar k.ask.bar

  background : a.background < 256 ^ k.B
  background = in_pixel a.background colours.background k.ask.background

  module _ (u v : ℕ) (hu : u < (main_image s).width) (hv : v < (main_image s).height) (memory : List ℕ) (len : length memory ≡ memory_size) where
    abbrev shade : List ℕ → ℕ
    shade sheet = sheet_pixel s.depth (main_image s) sheet (pixel_at u v)

    -- the columns are drawn first, and take no words
    abbrev before : List ℕ
    before = drawn s (columns a 0 t.heights) (strip_words t) memory

    in_turn : drawn s (strip_commands t) (strip_words t) memory ≡ drawn s (writes a 0 t.digits) (strip_words t) before
    unfolding strip_commands
    in_turn =
        drawn_append s (columns a 0 t.heights) (writes a 0 t.digits) (strip_words t) memory
        ∙ ap (λ (n : ℕ). drawn s (writes a 0 t.digits) (drop n (strip_words t)) before) (columns_take s a 0 t.heights)

    before_len : length before ≡ memory_size
    before_len = length_drawn s (columns a 0 t.heights) (strip_words t) memory ∙ len

    -- no digit is over it
    no_digit : MissedBy u v (writes a 0 t.digits) → shade (drawn s (strip_commands t) (strip_words t) memory) ≡ shade before
    no_digit h = ap shade in_turn ∙ missed memory_size k.B s k.surface k.deep k.size u v hu hv (writes a 0 t.digits) h (strip_words t) before before_len

    column_shown : (c l : ℕ) → c < a.hours → a.x + c * a.column ≤ u → u < a.x + c * a.column + a.column → v ≡ a.y + l → l < column_height
        → shade (drawn s (strip_commands t) (strip_words t) memory) ≡ cond (leb column_height (l + height (a.hours - 1 - c))) a.bar a.background
    column_shown c l few left right line low =
        no_digit (writes_miss u v a 0 t.digits (λ p q r z. omega arith))
        ∙ columns_shade memory_size k.B s k.surface k.deep k.size u v hu hv a bar background 0 t.heights shaped.low c l (omega (arith, shaped.count)) (omega arith) (omega arith) line low (strip_words t) memory len
        ∙ ap (λ (n : ℕ). cond (leb column_height (l + n)) a.bar a.background) (aged c few)

    digit_shown : (d : ℕ) → d < length t.digits → a.x + d * glyph_size ≤ u → u < a.x + d * glyph_size + glyph_size → a.y + column_height ≤ v → v < a.y + column_height + glyph_size
        → shade (drawn s (strip_commands t) (strip_words t) memory)
        ≡ glyph_colour a (glyph_of t.site t.factory (get_or t.digits d 0)) (u - (a.x + (0 + d) * glyph_size)) (v - (a.y + column_height))
    digit_shown d few left right top bottom =
        ap shade in_turn
        ∙ writes_shade memory_size k.B s k.surface k.deep k.size u v hu hv a k.same k.ask.depth bar background k.ask.bar k.ask.background t.site t.factory
        0 t.digits d few (omega arith) (omega arith) top bottom before before_len

    other_shown : in_columns t u v ≡ false → in_number t u v ≡ false → shade (drawn s (strip_commands t) (strip_words t) memory) ≡ shade memory
    unfolding in_columns in_number
    other_shown out below =
        no_digit
        (writes_miss u v a 0 t.digits
        (λ p q r z.
        true≢false
        (sym (both_true (among a.x (length t.digits * glyph_size) u) (among (a.y + column_height) glyph_size v) (among_is a.x (length t.digits * glyph_size) u (omega arith) (omega arith)) (among_is (a.y + column_height) glyph_size v r z))
        ∙ below)))
        ∙ missed memory_size k.B s k.surface k.deep k.size u v hu hv (columns a 0 t.heights)
        (columns_miss u v a 0 t.heights shaped.low
        (λ p q r z.
        let count : (0 + length t.heights) * a.column ≡ a.hours * a.column = ap (λ (n : ℕ). n * a.column) (zero-add (length t.heights) ∙ shaped.count) in
        true≢false
        (sym (both_true (among a.x (a.hours * a.column) u) (among a.y column_height v) (among_is a.x (a.hours * a.column) u (omega arith) (omega (arith, count))) (among_is a.y column_height v r z))
        ∙ out)))
        (strip_words t) memory len

  pub shown : Shown screen t height
  unfolding glyph_colour
  shown =
      record {
        compiles = compiles screen t accepts k colours shaped;
        columns = λ buffer memory byte-memory len fits c i l p q few hi low h.
            let at = shown_in screen t accepts k colours shaped p q (a.x + c * a.column + i) (a.y + l) h in
            colour_is screen t accepts k colours shaped bytes buffer memory byte-memory len fits p q (a.x + c * a.column + i) (a.y + l) h
            ∙ column_shown (a.x + c * a.column + i) (a.y + l) at.0 at.1 memory len c l few (omega arith) (omega arith) refl low;
        digits = λ buffer memory byte-memory len fits d i j p q few hi hj h.
            let u = a.x + d * glyph_size + i in
            let v = a.y + column_height + j in
            let at = shown_in screen t accepts k colours shaped p q u v h in
            let across : u - (a.x + (0 + d) * glyph_size) ≡ i = omega arith in
            let down : v - (a.y + column_height) ≡ j = omega arith in
            colour_is screen t accepts k colours shaped bytes buffer memory byte-memory len fits p q u v h
            ∙ digit_shown u v at.0 at.1 memory len d few (omega arith) (omega arith) (omega arith) (omega arith)
            ∙ (λ z. glyph_colour a (glyph_of t.site t.factory (get_or t.digits d 0)) (across z) (down z));
        others = λ buffer memory byte-memory len fits p q u v h out below.
            let at = shown_in screen t accepts k colours shaped p q u v h in
            colour_is screen t accepts k colours shaped bytes buffer memory byte-memory len fits p q u v h
            ∙ other_shown u v at.0 at.1 memory len out below;
      }

-- ---- of any ring
shaped_ring : (r : Ring) (a : Ask) (site factory : List ℕ) → Shaped (strip_for r a site factory)
shaped_ring r a site factory = record { count = heights_count r a.hours; low = heights_low r a.hours; few = digits_few r.any r.newest }

pub ring_shown : RingShown
ring_shown screen r a site factory bytes colours fits =
    shown screen bytes (strip_for r a site factory) fits.accepted (known screen (strip_for r a site factory) fits) colours (shaped_ring r a site factory)
    (λ age. (hour_in r age).height) (heights_at r a.hours)

-- ---- of samples that came to an empty ring
pub trend_shown : TrendShown
trend_shown screen came a site factory bytes sequences colours fits =
    subst (Shown screen (strip_after came a site factory)) (λ i age. ((ring_tells came sequences).hours age i).height)
    (ring_shown screen (ring_after empty_ring came) a site factory bytes colours fits)
