-- Storing the strip's commands: the bytes of one, of a column, of all columns and of the number, and what is in reach of them.
use Prim.Native.Nat.{ℕ, zero, suc, ◌+◌, ◌-◌, ◌*◌, ◌/◌, ◌%◌, ◌<◌, ◌≤◌}
use mathlib.Core.Path.{◌≡◌, refl, sym, ap, ◌∙◌}
use mathlib.Core.Bool.{Bool, true, false, ◌&&◌, ◌||◌, cond}
use mathlib.Core.List.{List, [], ◌∷◌, ◌++◌, append-nil}
use mathlib.Core.Logic.{◌⊎◌, inl, inr, ⊎_elim}
use native.Mathlib.Nat.{mul-le-mul}
use native.Mathlib.Numerals.{add-one}
use native.Mathlib.Omega.{arith}
use lib.ListN.{length, get_or, drop, length-append, drop_of_length-le}
use lib.Seq.{sets, length-sets, drop-cons}
use lib.Dec.{leb, eqb}
use borrow.Author.Tests.{le-leb, leb-true, eqb-true, ne_eqb}
use Rattle.record.specs.Bytes.{four_bytes}
use Rattle.record.proofs.Choice.{and_left, and_right}
use Rattle.record.proofs.Stores.{sets_append}
use Rattle.command.specs.Command.{command_bytes}
use Rattle.command.specs.declared.Command.{Command}
use Rattle.command.proofs.Bytes.{Fits}
use Rattle.wear.specs.Strip.{fill_at, glyph_at, column, columns, writes, list_bytes, all_in_reach}
use Rattle.wear.specs.Limits.{command_count}
use Rattle.wear.specs.declared.Ask.{Ask}
use Rattle.wear.proofs.Lists.{length_command, length_list, list_append, writes_count, reach_append}

-- ---- a command's bytes
-- four numbers, of four bytes each
abbrev pub sixteen : ℕ → ℕ → ℕ → ℕ → List ℕ
sixteen a b c d = four_bytes a ++ (four_bytes b ++ (four_bytes c ++ four_bytes d))

pub sixteen_stored : (l : List ℕ) (at a b c d : ℕ) {l1 l2 l3 l4 : List ℕ} → l1 ≡ sets l at (four_bytes a) → l2 ≡ sets l1 (at + 4) (four_bytes b)
    → l3 ≡ sets l2 (at + 8) (four_bytes c) → l4 ≡ sets l3 (at + 12) (four_bytes d) → l4 ≡ sets l at (sixteen a b c d)
sixteen_stored l at a b c d {l1} {l2} {l3} e f g h =
    h ∙ ap (λ (x : List ℕ). sets x (at + 12) (four_bytes d)) (g ∙ ap (λ (x : List ℕ). sets x (at + 8) (four_bytes c)) (f ∙ ap (λ (x : List ℕ). sets x (at + 4) (four_bytes b)) e))
    ∙ sym together
  where
    two : (at : ℕ) (l : List ℕ) (n m : ℕ) (k : ℕ) → k ≡ at + 4 → sets l at (four_bytes n ++ four_bytes m) ≡ sets (sets l at (four_bytes n)) k (four_bytes m)
    two at l n m k q = sets_append l at (four_bytes n) (four_bytes m) ∙ ap (λ (i : ℕ). sets (sets l at (four_bytes n)) i (four_bytes m)) (sym q)

    together : sets l at (sixteen a b c d) ≡ sets (sets (sets (sets l at (four_bytes a)) (at + 4) (four_bytes b)) (at + 8) (four_bytes c)) (at + 12) (four_bytes d)
    together =
        sets_append l at (four_bytes a) (four_bytes b ++ (four_bytes c ++ four_bytes d))
        ∙ sets_append (sets l at (four_bytes a)) (at + 4) (four_bytes b) (four_bytes c ++ four_bytes d)
        ∙ ap (λ (i : ℕ). sets (sets (sets l at (four_bytes a)) (at + 4) (four_bytes b)) i (four_bytes c ++ four_bytes d)) (omega arith)
        ∙ two (at + 8) (sets (sets l at (four_bytes a)) (at + 4) (four_bytes b)) c d (at + 12) (omega arith)

module _ (x y : ℕ) (h : x < 65536) (k : y < 65536) where
  low_low : (x + 65536 * y) % 256 ≡ x % 256
  low_low = omega arith

  low_high : (x + 65536 * y) / 256 % 256 ≡ x / 256 % 256
  low_high = omega arith

  high_low : (x + 65536 * y) / 65536 % 256 ≡ y % 256
  high_low = omega arith

  high_high : (x + 65536 * y) / 16777216 % 256 ≡ y / 256 % 256
  high_high = omega arith

-- two numbers of two bytes as one of four
pub pair_bytes : (x y : ℕ) → x < 65536 → y < 65536 → four_bytes (x + 65536 * y) ≡ x % 256 ∷ x / 256 % 256 ∷ y % 256 ∷ y / 256 % 256 ∷ []
pair_bytes x y h k = λ t. low_low x y h k t ∷ low_high x y h k t ∷ high_low x y h k t ∷ high_high x y h k t ∷ []

module _ (o s r : ℕ) (p : o < 256) (q : s < 256) (u : r < 256) where
  head_0 : (o + 256 * s + 65536 * r) % 256 ≡ o
  head_0 = omega arith

  head_1 : (o + 256 * s + 65536 * r) / 256 % 256 ≡ s
  head_1 = omega arith

  head_2 : (o + 256 * s + 65536 * r) / 65536 % 256 ≡ r
  head_2 = omega arith

  head_3 : (o + 256 * s + 65536 * r) / 16777216 % 256 ≡ 0
  head_3 = omega arith

  pub head_bytes : four_bytes (o + 256 * s + 65536 * r) ≡ o ∷ s ∷ r ∷ 0 ∷ []
  head_bytes = λ t. head_0 t ∷ head_1 t ∷ head_2 t ∷ head_3 t ∷ []

pub half_bytes : (v : ℕ) → v < 65536 → four_bytes v ≡ v % 256 ∷ v / 256 % 256 ∷ 0 ∷ 0 ∷ []
half_bytes v h =
    let e : v / 65536 % 256 ≡ 0 = omega arith in
    let f : v / 16777216 % 256 ≡ 0 = omega arith in
    λ t. v % 256 ∷ v / 256 % 256 ∷ e t ∷ f t ∷ []

-- the 32 bytes as eight numbers
pub command_numbers : (c : Command) → Fits c →
    sixteen (c.operation + 256 * c.surface + 65536 * c.raster) (c.x + 65536 * c.y) (c.width + 65536 * c.height) (c.sx + 65536 * c.sy) ++ sixteen c.colour 0 0 0
    ≡ command_bytes c
unfolding command_bytes
command_numbers c h = λ t.
    (head_bytes c.operation c.surface c.raster h.operation h.surface h.raster t
    ++ (pair_bytes c.x c.y h.x h.y t
    ++ (pair_bytes c.width c.height h.width h.height t ++ pair_bytes c.sx c.sy h.sx h.sy t)))
    ++ (half_bytes c.colour h.colour t ++ (four_bytes 0 ++ (four_bytes 0 ++ four_bytes 0)))

pub command_stored : (l : List ℕ) (at : ℕ) (c : Command) → Fits c → (h p q r : ℕ) → h ≡ c.operation + 256 * c.surface + 65536 * c.raster
    → p ≡ c.x + 65536 * c.y → q ≡ c.width + 65536 * c.height → r ≡ c.sx + 65536 * c.sy
    → {l1 l2 : List ℕ} → l1 ≡ sets l at (sixteen h p q r) → l2 ≡ sets l1 (at + 16) (sixteen c.colour 0 0 0) → l2 ≡ sets l at (command_bytes c)
command_stored l at c s h p q r i j k m e f =
    f ∙ ap (λ (x : List ℕ). sets x (at + 16) (sixteen c.colour 0 0 0)) e
    ∙ sym (sets_append l at (sixteen h p q r) (sixteen c.colour 0 0 0))
    ∙ ap (λ (b : List ℕ). sets l at b) ((λ t. sixteen (i t) (j t) (k t) (m t) ++ sixteen c.colour 0 0 0) ∙ command_numbers c s)

-- ---- what is in reach
-- how far right a column starts, in the columns' limits
pub column_low : (c w : ℕ) → c < 24 → w ≤ 16 → c * w ≤ 368
column_low c w h k = mul-le-mul {n₂ = 23} {m₂ = 16} (omega arith) k

-- a column: its x, and the y of its bar if it has one
module _ (a : Ask) (c h : ℕ) where
  column_by : (t : Bool) → eqb h 0 ≡ t → leb a.y 65535 ≡ true
      → all_in_reach (column a c h) ≡ (leb (a.x + c * a.column) 65535 && (t || leb (a.y + 100 - h) 65535))
  unfolding column all_in_reach
  column_by true e y = rw (e, y)
  column_by false e y = rw (e, y) (both (leb (a.x + c * a.column) 65535) (leb (a.y + 100 - h) 65535))
    where
      both : (p q : Bool) → (p && (p && (q && true))) ≡ (p && q)
      both true true = refl
      both true false = refl
      both false q = refl

  pub column_reached : a.y ≤ 65535 → (leb (a.x + c * a.column) 65535 && (eqb h 0 || leb (a.y + 100 - h) 65535)) ≡ all_in_reach (column a c h)
  column_reached y = sym (column_by (eqb h 0) refl (le-leb a.y 65535 y))

  -- a column in reach
  pub column_x : a.y ≤ 65535 → all_in_reach (column a c h) ≡ true → a.x + c * a.column ≤ 65535
  column_x y e = leb-true (a.x + c * a.column) 65535 (and_left (leb (a.x + c * a.column) 65535) (eqb h 0 || leb (a.y + 100 - h) 65535) (column_reached y ∙ e))

  pub column_y : a.y ≤ 65535 → all_in_reach (column a c h) ≡ true → (h ≡ 0 → ⊥) → a.y + 100 - h ≤ 65535
  column_y y e n = leb-true (a.y + 100 - h) 65535 (bar (eqb h 0) refl (and_right (leb (a.x + c * a.column) 65535) (eqb h 0 || leb (a.y + 100 - h) 65535) (column_reached y ∙ e)))
    where
      bar : (t : Bool) → eqb h 0 ≡ t → (t || leb (a.y + 100 - h) 65535) ≡ true → leb (a.y + 100 - h) 65535 ≡ true
      bar true q u = absurd (n (eqb-true h 0 q))
      bar false q u = u

-- the columns from c on: the first of them, and those behind it
module _ (a : Ask) (heights : List ℕ) (c : ℕ) (l : c < length heights) where
  pub columns_step : columns a c (drop c heights) ≡ column a c (get_or heights c 0) ++ columns a (c + 1) (drop (c + 1) heights)
  unfolding columns
  columns_step = rw (drop-cons heights c 0 l, add-one)

  pub columns_reached : all_in_reach (columns a c (drop c heights)) ≡ (all_in_reach (column a c (get_or heights c 0)) && all_in_reach (columns a (c + 1) (drop (c + 1) heights)))
  columns_reached = ap all_in_reach columns_step ∙ reach_append (column a c (get_or heights c 0)) (columns a (c + 1) (drop (c + 1) heights))

  pub reach_on : {r : Bool} → r ≡ all_in_reach (columns a c (drop c heights)) → all_in_reach (column a c (get_or heights c 0)) ≡ true → r ≡ all_in_reach (columns a (c + 1) (drop (c + 1) heights))
  reach_on e f = e ∙ columns_reached ∙ (rw f)

  pub reach_off : {r : Bool} → r ≡ all_in_reach (columns a c (drop c heights)) → all_in_reach (column a c (get_or heights c 0)) ≡ false → false ≡ r
  reach_off e f = sym (e ∙ columns_reached ∙ (rw f))

pub columns_none : (a : Ask) (heights : List ℕ) (c : ℕ) → length heights ≤ c → columns a c (drop c heights) ≡ []
unfolding columns
columns_none a heights c h = rw (drop_of_length-le heights {i = c} h)

pub reach_over : (a : Ask) (heights : List ℕ) (c : ℕ) {r : Bool} → r ≡ all_in_reach (columns a c (drop c heights)) → length heights ≤ c → true ≡ r
unfolding all_in_reach
reach_over a heights c e h = sym (e ∙ ap all_in_reach (columns_none a heights c h))

-- the number's writes: the last one reaches farthest
last_decides : (a : Ask) (i d : ℕ) (ds : List ℕ) → all_in_reach (writes a i (d ∷ ds)) ≡ (leb (a.x + (i + length ds) * 8) 65535 && leb (a.y + 100) 65535)
unfolding writes all_in_reach
last_decides a i d [] =
    let e : i + 0 ≡ i = omega arith in
    rw (e, and-true (leb (a.y + 100) 65535))
  where
    and-true : (b : Bool) → (b && true) ≡ b
    and-true true = refl
    and-true false = refl
last_decides a i d (e ∷ ds) =
    ap (λ (b : Bool). leb (a.x + i * 8) 65535 && (leb (a.y + 100) 65535 && b)) (last_decides a (suc i) e ds)
    ∙ farther (leb (a.x + i * 8) 65535) (leb (a.y + 100) 65535) (leb (a.x + (suc i + length ds) * 8) 65535)
    (λ h. le-leb (a.x + i * 8) 65535 (omega (arith, leb-true (a.x + (suc i + length ds) * 8) 65535 h)))
    ∙ ap (λ (k : ℕ). leb (a.x + k * 8) 65535 && leb (a.y + 100) 65535) next
  where
    next : suc i + length ds ≡ i + suc (length ds)
    next = omega arith

    farther : (p y q : Bool) → (q ≡ true → p ≡ true) → (p && (y && (q && y))) ≡ (q && y)
    farther p y true f = rw (f refl) (twice y)
      where
        twice : (y : Bool) → (y && y) ≡ y
        twice true = refl
        twice false = refl
    farther true true false f = refl
    farther true false false f = refl
    farther false y false f = refl

pub writes_reached : (a : Ask) (ds : List ℕ) → 0 < length ds → (leb (a.x + (length ds - 1) * 8) 65535 && leb (a.y + 100) 65535) ≡ all_in_reach (writes a 0 ds)
writes_reached a [] h = absurd (omega arith)
writes_reached a (d ∷ ds) h =
    let e : 0 + length ds ≡ suc (length ds) - 1 = omega arith in
    sym (last_decides a 0 d ds ∙ ap (λ (k : ℕ). leb (a.x + k * 8) 65535 && leb (a.y + 100) 65535) e)

pub writes_none : (a : Ask) (ds : List ℕ) → length ds ≡ 0 → true ≡ all_in_reach (writes a 0 ds)
unfolding writes all_in_reach
writes_none a [] h = refl
writes_none a (d ∷ ds) h = absurd (omega arith)

-- ---- how many commands the columns have
pub count_start : (heights : List ℕ) → command_count heights ≡ 0 + command_count heights
count_start heights = omega arith

pub count_step : (heights : List ℕ) (c n k : ℕ) → c < length heights → k ≡ cond (eqb (get_or heights c 0) 0) 1 2
    → n + command_count (drop c heights) ≡ (n + k) + command_count (drop (c + 1) heights)
unfolding command_count
count_step heights c n k h e = rw (drop-cons heights c 0 h, add-one, e) (omega arith)

pub count_end : (heights : List ℕ) (c n : ℕ) → length heights ≤ c → n + command_count (drop c heights) ≡ n
unfolding command_count
count_end heights c n h = rw (drop_of_length-le heights {i = c} h) (omega arith)

pub one_or_two : (h k : ℕ) → k ≡ cond (eqb h 0) 1 2 → k ≤ 2
one_or_two h k e = either (eqb h 0) e
  where
    either : (t : Bool) → k ≡ cond t 1 2 → k ≤ 2
    either true q = omega arith
    either false q = omega arith

-- ---- storing a column
module _ (a : Ask) (c h : ℕ) where
  -- without a bar
  pub blank_list : h ≡ 0 → list_bytes (column a c h) ≡ command_bytes (fill_at (a.x + c * a.column) a.y a.column 100 a.background)
  unfolding column list_bytes
  blank_list e = rw e (append-nil _)

  pub bar_list : (h ≡ 0 → ⊥) → list_bytes (column a c h)
      ≡ command_bytes (fill_at (a.x + c * a.column) a.y a.column 100 a.background)
      ++ command_bytes (fill_at (a.x + c * a.column) (a.y + 100 - h) a.column h a.bar)
  unfolding column list_bytes
  bar_list n = rw (ne_eqb h 0 n) (ap (λ (l : List ℕ). command_bytes (fill_at (a.x + c * a.column) a.y a.column 100 a.background) ++ l) (append-nil _))

  pub blank_length : h ≡ 0 → length (list_bytes (column a c h)) ≡ 32
  blank_length e = ap (λ (l : List ℕ). length l) (blank_list e) ∙ length_command _

  pub bar_length : (h ≡ 0 → ⊥) → length (list_bytes (column a c h)) ≡ 64
  bar_length n =
      ap (λ (l : List ℕ). length l) (bar_list n)
      ∙ length-append (command_bytes (fill_at (a.x + c * a.column) a.y a.column 100 a.background)) (command_bytes (fill_at (a.x + c * a.column) (a.y + 100 - h) a.column h a.bar))
      ∙ (λ t. length_command (fill_at (a.x + c * a.column) a.y a.column 100 a.background) t + length_command (fill_at (a.x + c * a.column) (a.y + 100 - h) a.column h a.bar) t)

  -- the background has room in any case
  pub column_room : 32 ≤ length (list_bytes (column a c h))
  column_room = ⊎_elim (λ e. omega (arith, blank_length e)) (λ n. omega (arith, bar_length n)) (zero_or_not h)
    where
      zero_or_not : (n : ℕ) → (n ≡ 0) ⊎ (n ≡ 0 → ⊥)
      zero_or_not zero = inl refl
      zero_or_not (suc n) = inr (λ e. omega arith)

  module _ (l : List ℕ) (at : ℕ) {l1 : List ℕ} {f : Command} (e : f ≡ fill_at (a.x + c * a.column) a.y a.column 100 a.background) (s : l1 ≡ sets l at (command_bytes f)) where
    pub blank_stored : h ≡ 0 → l1 ≡ sets l at (list_bytes (column a c h))
    blank_stored z = s ∙ ap (λ (x : Command). sets l at (command_bytes x)) e ∙ ap (λ (b : List ℕ). sets l at b) (sym (blank_list z))

    pub bar_stored : (h ≡ 0 → ⊥) → {l2 : List ℕ} {g : Command} → g ≡ fill_at (a.x + c * a.column) (a.y + 100 - h) a.column h a.bar
        → l2 ≡ sets l1 (at + 32) (command_bytes g) → l2 ≡ sets l at (list_bytes (column a c h))
    bar_stored n d u =
        u ∙ (λ t. sets ((s ∙ ap (λ (x : Command). sets l at (command_bytes x)) e) t) (at + 32) (command_bytes (d t)))
        ∙ sym (sets_append l at (command_bytes (fill_at (a.x + c * a.column) a.y a.column 100 a.background)) (command_bytes (fill_at (a.x + c * a.column) (a.y + 100 - h) a.column h a.bar))
        ∙ ap (λ (i : ℕ). sets (sets l at (command_bytes (fill_at (a.x + c * a.column) a.y a.column 100 a.background))) (at + i) (command_bytes (fill_at (a.x + c * a.column) (a.y + 100 - h) a.column h a.bar))) (length_command _))
        ∙ ap (λ (b : List ℕ). sets l at b) (sym (bar_list n))

-- ---- storing the columns, c of them stored
-- what is left to store, done to the list now, is the whole done to the list at entry; it is in reach and has room
pub record Columned (a : Ask) (heights list₀ list : List ℕ) (at c : ℕ) : Type 0 where
  pub same : length list ≡ length list₀
  pub stored : sets list₀ 0 (list_bytes (columns a 0 heights)) ≡ sets list at (list_bytes (columns a c (drop c heights)))
  pub behind : at + length (list_bytes (columns a c (drop c heights))) ≡ length (list_bytes (columns a 0 heights))
  pub reached : all_in_reach (columns a c (drop c heights)) ≡ true

module _ (a : Ask) (heights : List ℕ) where
  pub columned_start : (list : List ℕ) → all_in_reach (columns a 0 heights) ≡ true → Columned a heights list list 0 0
  columned_start list e = record { same = refl; stored = refl; behind = omega arith; reached = e }

  module _ (list₀ list : List ℕ) (at c : ℕ) (g : Columned a heights list₀ list at c) where
    module _ (l : c < length heights) where
      split : list_bytes (columns a c (drop c heights)) ≡ list_bytes (column a c (get_or heights c 0)) ++ list_bytes (columns a (c + 1) (drop (c + 1) heights))
      split = ap list_bytes (columns_step a heights c l) ∙ list_append (column a c (get_or heights c 0)) (columns a (c + 1) (drop (c + 1) heights))

      lengths : length (list_bytes (columns a c (drop c heights))) ≡ length (list_bytes (column a c (get_or heights c 0))) + length (list_bytes (columns a (c + 1) (drop (c + 1) heights)))
      lengths = ap (λ (b : List ℕ). length b) split ∙ length-append (list_bytes (column a c (get_or heights c 0))) (list_bytes (columns a (c + 1) (drop (c + 1) heights)))

      pub columned_room : length (list_bytes (columns a 0 heights)) ≤ length list₀ → at + length (list_bytes (column a c (get_or heights c 0))) ≤ length list
      columned_room h = omega (arith, g.same, g.behind, lengths)

      pub columned_reach : all_in_reach (column a c (get_or heights c 0)) ≡ true
      columned_reach = and_left (all_in_reach (column a c (get_or heights c 0))) (all_in_reach (columns a (c + 1) (drop (c + 1) heights))) (sym (columns_reached a heights c l) ∙ g.reached)

      pub columned_turn : (at' : ℕ) (list' : List ℕ) → at' ≡ at + length (list_bytes (column a c (get_or heights c 0))) → list' ≡ sets list at (list_bytes (column a c (get_or heights c 0)))
          → Columned a heights list₀ list' at' (c + 1)
      columned_turn at' list' e f =
          record {
            same = ap (λ (x : List ℕ). length x) f ∙ length-sets list at (list_bytes (column a c (get_or heights c 0))) ∙ g.same;
            stored =
                g.stored ∙ ap (λ (b : List ℕ). sets list at b) split ∙ sets_append list at (list_bytes (column a c (get_or heights c 0))) (list_bytes (columns a (c + 1) (drop (c + 1) heights)))
                ∙ (λ t. sets (sym f t) (sym e t) (list_bytes (columns a (c + 1) (drop (c + 1) heights))));
            behind = omega (arith, g.behind, lengths, e);
            reached = and_right (all_in_reach (column a c (get_or heights c 0))) (all_in_reach (columns a (c + 1) (drop (c + 1) heights))) (sym (columns_reached a heights c l) ∙ g.reached);
          }

    pub columned_end : length heights ≤ c → (at ≡ length (list_bytes (columns a 0 heights))) × (list ≡ sets list₀ 0 (list_bytes (columns a 0 heights)))
    unfolding list_bytes
    columned_end h =
        let e : list_bytes (columns a c (drop c heights)) ≡ [] = ap list_bytes (columns_none a heights c h) in
        let n : length (list_bytes (columns a c (drop c heights))) ≡ 0 = ap (λ (b : List ℕ). length b) e in
        (omega (arith, g.behind, n), sym (g.stored ∙ ap (λ (b : List ℕ). sets list at b) e))

-- ---- storing the number's writes, i of them stored
pub record Written (a : Ask) (digits list₀ list : List ℕ) (at i : ℕ) : Type 0 where
  pub same : length list ≡ length list₀
  pub stored : sets list₀ at (list_bytes (writes a 0 digits)) ≡ sets list (at + 32 * i) (list_bytes (writes a i (drop i digits)))
  pub reached : all_in_reach (writes a i (drop i digits)) ≡ true

module _ (a : Ask) (digits : List ℕ) (at : ℕ) where
  pub written_start : (list : List ℕ) → all_in_reach (writes a 0 digits) ≡ true → Written a digits list list at 0
  written_start list e =
      let z : at ≡ at + 32 * 0 = omega arith in
      record { same = refl; stored = ap (λ (k : ℕ). sets list k (list_bytes (writes a 0 digits))) z; reached = e }

  -- what the room asked for comes to
  pub written_room : (n : ℕ) → at + length (list_bytes (writes a 0 digits)) ≤ n → at + 32 * length digits ≤ n
  written_room n h = omega (arith, h, length_list (writes a 0 digits), writes_count a 0 digits)

  module _ (list₀ list : List ℕ) (i : ℕ) (g : Written a digits list₀ list at i) where
    module _ (l : i < length digits) where
      writes_step : writes a i (drop i digits) ≡ glyph_at (a.x + i * 8) (a.y + 100) ∷ writes a (i + 1) (drop (i + 1) digits)
      unfolding writes
      writes_step = rw (drop-cons digits i 0 l, add-one)

      reached_step : (leb (a.x + i * 8) 65535 && (leb (a.y + 100) 65535 && all_in_reach (writes a (i + 1) (drop (i + 1) digits)))) ≡ true
      unfolding all_in_reach
      reached_step = sym (ap all_in_reach writes_step) ∙ g.reached

      pub written_x : a.x + i * 8 ≤ 65535
      written_x = leb-true (a.x + i * 8) 65535 (and_left (leb (a.x + i * 8) 65535) (leb (a.y + 100) 65535 && all_in_reach (writes a (i + 1) (drop (i + 1) digits))) reached_step)

      reached_y : (leb (a.y + 100) 65535 && all_in_reach (writes a (i + 1) (drop (i + 1) digits))) ≡ true
      reached_y = and_right (leb (a.x + i * 8) 65535) (leb (a.y + 100) 65535 && all_in_reach (writes a (i + 1) (drop (i + 1) digits))) reached_step

      pub written_y : a.y + 100 ≤ 65535
      written_y = leb-true (a.y + 100) 65535 (and_left (leb (a.y + 100) 65535) (all_in_reach (writes a (i + 1) (drop (i + 1) digits))) reached_y)

      pub written_turn : (list' : List ℕ) {f : Command} → f ≡ glyph_at (a.x + i * 8) (a.y + 100) → list' ≡ sets list (at + 32 * i) (command_bytes f) → Written a digits list₀ list' at (i + 1)
      unfolding list_bytes
      written_turn list' {f} e s =
          let q : at + 32 * i + 32 ≡ at + 32 * (i + 1) = omega arith in
          let d : list' ≡ sets list (at + 32 * i) (command_bytes (glyph_at (a.x + i * 8) (a.y + 100))) = s ∙ ap (λ (x : Command). sets list (at + 32 * i) (command_bytes x)) e in
          record {
            same = ap (λ (x : List ℕ). length x) s ∙ length-sets list (at + 32 * i) (command_bytes f) ∙ g.same;
            stored =
                g.stored ∙ ap (λ (cs : List Command). sets list (at + 32 * i) (list_bytes cs)) writes_step
                ∙ sets_append list (at + 32 * i) (command_bytes (glyph_at (a.x + i * 8) (a.y + 100))) (list_bytes (writes a (i + 1) (drop (i + 1) digits)))
                ∙ ap (λ (k : ℕ). sets (sets list (at + 32 * i) (command_bytes (glyph_at (a.x + i * 8) (a.y + 100)))) (at + 32 * i + k) (list_bytes (writes a (i + 1) (drop (i + 1) digits)))) (length_command (glyph_at (a.x + i * 8) (a.y + 100)))
                ∙ (λ t. sets (sym d t) (q t) (list_bytes (writes a (i + 1) (drop (i + 1) digits))));
            reached = and_right (leb (a.y + 100) 65535) (all_in_reach (writes a (i + 1) (drop (i + 1) digits))) reached_y;
          }

    pub written_end : length digits ≤ i → list ≡ sets list₀ at (list_bytes (writes a 0 digits))
    unfolding writes list_bytes
    written_end h = sym (g.stored ∙ ap (λ (ds : List ℕ). sets list (at + 32 * i) (list_bytes (writes a i ds))) (drop_of_length-le digits {i = i} h))
