-- What is known of a strip that is made and of a screen that holds it.
use Prim.Native.Nat.{ℕ, ◌+◌, ◌*◌, ◌/◌, ◌≤◌, ◌<◌}
use mathlib.Core.Path.{◌≡◌, refl, sym}
use mathlib.Core.Bool.{Bool, true, false, ◌&&◌, ◌||◌, cond, and-eq-true_iff, true≢false}
use mathlib.Core.Logic.{◌⊎◌, inl, inr, ⊎_elim}
use mathlib.Core.List.{List}
use native.Mathlib.Omega.{arith}
use lib.ListN.{length}
use lib.Dec.{leb, ltb, eqb, lit<}
use borrow.Author.Tests.{eqb-true, eq-eqb, leb-true, ltb-false, not-false}
use Rattle.record.specs.Checks.{first_of, AllPass, Numbered}
use Rattle.record.proofs.Checks.{none}
use Rattle.record.proofs.Choice.{and_left, and_right, or_elim}
use Rattle.pixel.specs.Depth.{is_depth}
use Rattle.pixel.proofs.Depth.{depth, factor_le}
use Rattle.screen.specs.Screen.{memory_size, fields_of, field_rows, main_image}
use Rattle.screen.specs.declared.Image.{Image}
use Rattle.screen.proofs.Read.{accepts, read_accepted}
use Rattle.command.specs.Command.{inside_image, surface_of}
use Rattle.unit.proofs.Painted.{OneOrTwo}
use Rattle.unit.proofs.Drawable.{Surface, surface_ok}
use Rattle.wear.specs.Strip.{Strip, strip_list, strip_words, Stripping, stripping, ask_rows, strip_rows, column_height, glyph_size, fill_at}
use Rattle.wear.specs.declared.Ask.{Ask}
use Rattle.trend.specs.Trend.{holds, Fits}

-- ---- the checks of what is asked
pub record AskOk (a : Ask) : Type 0 where
  pub depth : (a.depth ≡ 8) ⊎ (a.depth ≡ 16)
  pub bar : a.depth ≡ 8 → a.bar ≤ 255
  pub background : a.depth ≡ 8 → a.background ≤ 255
  pub hours : a.hours ≤ 24
  pub wide : 0 < a.column

numbered : (t : Strip) (room words : ℕ) → Numbered (strip_rows t room words)
unfolding strip_rows ask_rows Numbered
numbered t room words = (lit< tt, (lit< tt, (lit< tt, (lit< tt, (lit< tt, (lit< tt, (lit< tt, (lit< tt, tt))))))))

no_number_lem : (t : Strip) (room words : ℕ) → (stripping t room words).number ≡ 0 → first_of (strip_rows t room words) ≡ 0
unfolding stripping
no_number_lem t room words e = chosen (first_of (strip_rows t room words)) (eqb (first_of (strip_rows t room words)) 0) refl e
  where
    chosen : (n : ℕ) (b : Bool) → eqb n 0 ≡ b
        → (cond {A = Stripping} b (record { number = 0; bytes = length (strip_list t); words = length (strip_words t) }) (record { number = n; bytes = 0; words = 0 })).number ≡ 0 → n ≡ 0
    chosen n true h k = eqb-true n 0 h
    chosen n false h k = k

two_depths : (d : ℕ) → is_depth d ≡ true → 8 ≤ d → (d ≡ 8) ⊎ (d ≡ 16)
two_depths d h deep =
    ⊎_elim (λ e. inr e) (λ p. inl (omega (arith, factor_le p.0 d 7 p.1))) (depth d h).narrow

-- neither colour is above 255 at depth 8
low : (d x y : ℕ) → (eqb d 8 && (ltb 255 x || ltb 255 y)) ≡ false → d ≡ 8 → (x ≤ 255) × (y ≤ 255)
low d x y e h = chosen (ltb 255 x) (ltb 255 y) refl refl (rw (eq-eqb d 8 h) at e)
  where
    chosen : (a b : Bool) → ltb 255 x ≡ a → ltb 255 y ≡ b → (a || b) ≡ false → (x ≤ 255) × (y ≤ 255)
    chosen true b p q k = absurd (true≢false k)
    chosen false true p q k = absurd (true≢false k)
    chosen false false p q k = (ltb-false 255 x p, ltb-false 255 y q)

pub ask_ok : (t : Strip) (room words : ℕ) → (stripping t room words).number ≡ 0 → AskOk t.ask
unfolding strip_rows ask_rows AllPass
ask_ok t room words e =
    let a = t.ask in
    let p = none (strip_rows t room words) (numbered t room words) (no_number_lem t room words e) in
    let hours = simp and-eq-true_iff at (not-false (leb 1 a.hours && leb a.hours 24) p.1.1.1.0) in
    let wide = simp and-eq-true_iff at (not-false (leb 1 a.column && leb a.column 16) p.1.1.1.1.0) in
    record {
      depth = two_depths a.depth (not-false (is_depth a.depth) p.0) (ltb-false a.depth 8 p.1.0);
      bar = λ h. (low a.depth a.bar a.background p.1.1.0 h).0;
      background = λ h. (low a.depth a.bar a.background p.1.1.0 h).1;
      hours = leb-true a.hours 24 hours.1;
      wide = leb-true 1 a.column wide.0;
    }

-- ---- where the image holds it
inside_says : (i : Image) (x y width height : ℕ) → inside_image i x y width height ≡ true → (x + width ≤ i.width) × (y + height ≤ i.height)
unfolding inside_image
inside_says i x y width height e =
    let t = simp and-eq-true_iff at e in
    (leb-true (x + width) i.width t.0, leb-true (y + height) i.height t.1)

pub record Held (i : Image) (t : Strip) : Type 0 where
  pub right : t.ask.x + t.ask.hours * t.ask.column ≤ i.width
  pub bottom : t.ask.y + column_height ≤ i.height
  pub number_right : 0 < length t.digits → t.ask.x + length t.digits * glyph_size ≤ i.width
  pub number_bottom : 0 < length t.digits → t.ask.y + column_height + glyph_size ≤ i.height

pub held_says : (i : Image) (t : Strip) → holds i t ≡ true → Held i t
unfolding holds
held_says i t e =
    let a = t.ask in
    let c = inside_says i a.x a.y (a.hours * a.column) column_height (and_left _ _ e) in
    let rest = and_right (inside_image i a.x a.y (a.hours * a.column) column_height) _ e in
    record { right = c.0; bottom = c.1; number_right = λ h. (number rest h).0; number_bottom = λ h. (number rest h).1 }
  where
    number : (eqb (length t.digits) 0 || inside_image i t.ask.x (t.ask.y + column_height) (length t.digits * glyph_size) glyph_size) ≡ true → 0 < length t.digits
        → (t.ask.x + length t.digits * glyph_size ≤ i.width) × (t.ask.y + column_height + glyph_size ≤ i.height)
    number r h =
        or_elim (eqb (length t.digits) 0) _ r (λ z. absurd (omega (arith, h, eqb-true (length t.digits) 0 z)))
        (inside_says i t.ask.x (t.ask.y + column_height) (length t.digits * glyph_size) glyph_size)

-- ---- all of it: B bytes to a pixel
pub record Known (screen : List ℕ) (t : Strip) : Type 0 where
  pub B : ℕ
  pub size : OneOrTwo B
  pub deep : (fields_of screen).depth ≡ 8 * B
  pub same : (fields_of screen).depth ≡ t.ask.depth
  pub fields : first_of (field_rows memory_size (fields_of screen)) ≡ 0
  pub flag : (fields_of screen).flag ≤ 1
  pub surface : Surface memory_size B (main_image (fields_of screen))
  pub ask : AskOk t.ask
  pub held : Held (main_image (fields_of screen)) t

pub known : (screen : List ℕ) (t : Strip) → Fits screen t → Known screen t
unfolding surface_of
known screen t f =
    let s = fields_of screen in
    let r = read_accepted memory_size screen s (sym (accepts memory_size screen f.accepted)) in
    let k = ask_ok t f.room f.words f.made in
    let eight : 8 ≤ s.depth = ⊎_elim (λ e. omega (arith, f.depth)) (λ e. omega (arith, f.depth)) k.depth in
    record {
      B = s.depth / 8;
      size = ⊎_elim (λ e. inl (omega (arith, f.depth))) (λ e. inr (omega (arith, f.depth))) k.depth;
      deep = ⊎_elim (λ e. omega (arith, f.depth)) (λ e. omega (arith, f.depth)) k.depth;
      same = f.depth;
      fields = r.2;
      flag = r.3;
      surface = surface_ok memory_size s r.2 r.3 eight (fill_at 0 0 0 0 0) (omega arith);
      ask = k;
      held = held_says (main_image s) t f.holds;
    }
