-- The list of the strip's commands: how many there are, their bytes, and the commands back out of the bytes.
use Prim.Native.Nat.{ℕ, suc, ◌+◌, ◌*◌, ◌/◌, ◌<◌, ◌≤◌}
use mathlib.Core.Path.{◌≡◌, refl, sym, ap, subst, ◌∙◌}
use mathlib.Core.Bool.{Bool, true, false, not, ◌&&◌, ◌||◌, cond, true≢false}
use mathlib.Core.List.{List, [], ◌∷◌, ◌++◌, map, append_assoc}
use mathlib.Core.Logic.{◌⊎◌, inl, inr}
use native.Mathlib.Nat.{mul-le-mul}
use native.Mathlib.Omega.{arith}
use lib.ListN.{length, get_or, length-append}
use lib.Seq.{sets, take_at}
use lib.Dec.{leb, ltb, eqb}
use borrow.Author.Tests.{leb-true, ltb-false, eqb-true, not-false, eq-eqb, ne_eqb, lt-ltb, le-ltb, lt-leb, le-leb}
use Rattle.record.specs.Lists.{AllBelow, parts_from, parts_of}
use Rattle.record.proofs.Lists.{parts_behind}
use Rattle.record.specs.Checks.{row, first_of, AllPass, Numbered}
use Rattle.record.proofs.Checks.{first_part, second_part, none, row_fails, row_passes, rows_end}
use Rattle.record.proofs.Choice.{and_left, and_right, or_elim, both_ways}
use Rattle.record.proofs.Stores.{sets_append, sets_over}
use Rattle.pixel.specs.Depth.{is_depth}
use Rattle.command.specs.Command.{command_bytes, line_words}
use Rattle.command.specs.declared.Command.{Command}
use Rattle.ring.specs.Kept.{heights_of}
use Rattle.ring.specs.declared.Ring.{Ring}
use Rattle.ring.proofs.Heights.{heights_count, heights_low}
use Rattle.wear.specs.Font.{digits_of}
use Rattle.wear.specs.Strip.{digits_in, Strip, strip_with, strip_for, column, columns, writes, strip_commands, list_bytes, strip_list, strip_words, all_in_reach, ask_rows, strip_rows, Stripping, stripping, list_after, words_after, stripping_of, stripping_by, answer_of}
use Rattle.wear.specs.Limits.{Checked, Drawable, command_count}
use Rattle.wear.specs.declared.Ask.{Ask}
use Rattle.std.specs.Prelude.{Result, Ok, Err}
use Rattle.refusal.specs.Number.{number}
use Rattle.refusal.specs.declared.Refusal.{Refusal}
use Rattle.refusal.proofs.Numbers.{number_positive, accepted, refused_with}
use Rattle.wear.specs.declared.Made.{Made}
use Rattle.wear.proofs.Fonts.{digits_low, digits_count}
use Rattle.wear.proofs.Words.{digit_words_count}

-- ---- the bytes
pub length_command : (c : Command) → length (command_bytes c) ≡ 32
unfolding command_bytes
length_command c = refl

pub length_list : (cs : List Command) → length (list_bytes cs) ≡ 32 * length cs
unfolding list_bytes
length_list [] = refl
length_list (c ∷ cs) = simp (length-append, length_command, length_list cs) (omega arith)

pub list_append : (xs ys : List Command) → list_bytes (xs ++ ys) ≡ list_bytes xs ++ list_bytes ys
unfolding list_bytes
list_append [] ys = refl
list_append (c ∷ xs) ys = ap (λ (l : List ℕ). command_bytes c ++ l) (list_append xs ys) ∙ sym (append_assoc (command_bytes c) (list_bytes xs) (list_bytes ys))

-- ---- the parts of the list are the records
parts_from_lem : (cs : List Command) → parts_from 32 (list_bytes cs) 0 (length cs) ≡ map command_bytes cs
unfolding parts_from list_bytes
parts_from_lem [] = refl
parts_from_lem (c ∷ cs) = λ t. take_at (command_bytes c) (list_bytes cs) 32 (length_command c) t ∷ (parts_behind 32 (command_bytes c) (list_bytes cs) (length_command c) 0 (length cs) ∙ parts_from_lem cs) t

pub list_parts : (cs : List Command) → parts_of 32 (list_bytes cs) ≡ map command_bytes cs
unfolding parts_of
list_parts cs =
    let e : length (list_bytes cs) / 32 ≡ length cs = omega (arith, length_list cs) in
    ap (λ (n : ℕ). parts_from 32 (list_bytes cs) 0 n) e ∙ parts_from_lem cs

-- ---- how many commands there are
column_count : (a : Ask) (c h : ℕ) (t : Bool) → eqb h 0 ≡ t → length (column a c h) ≡ cond t 1 2
unfolding column
column_count a c h true e = rw e
column_count a c h false e = rw e

pub columns_count : (a : Ask) (c : ℕ) (hs : List ℕ) → length (columns a c hs) ≡ command_count hs
unfolding columns command_count
columns_count a c [] = refl
columns_count a c (h ∷ hs) = length-append (column a c h) (columns a (suc c) hs) ∙ (λ t. column_count a c h (eqb h 0) refl t + columns_count a (suc c) hs t)

pub writes_count : (a : Ask) (i : ℕ) (ds : List ℕ) → length (writes a i ds) ≡ length ds
unfolding writes
writes_count a i [] = refl
writes_count a i (d ∷ ds) = ap suc (writes_count a (suc i) ds)

-- ---- what is in reach
and_assoc : (a b c d : Bool) → a && (b && (c && d)) ≡ (a && (b && c)) && d
and_assoc true true c d = refl
and_assoc true false c d = refl
and_assoc false b c d = refl

pub reach_append : (xs ys : List Command) → all_in_reach (xs ++ ys) ≡ (all_in_reach xs && all_in_reach ys)
unfolding all_in_reach
reach_append [] ys = refl
reach_append (c ∷ xs) ys =
    ap (λ (b : Bool). leb c.x 65535 && (leb c.y 65535 && b)) (reach_append xs ys)
    ∙ and_assoc (leb c.x 65535) (leb c.y 65535) (all_in_reach xs) (all_in_reach ys)

-- ---- the checks that ask for no command
asked_numbered : (a : Ask) (n : ℕ) → Numbered (ask_rows a n)
unfolding Numbered ask_rows
asked_numbered a n = (omega arith, (omega arith, (omega arith, (omega arith, (omega arith, (omega arith, tt))))))

-- by the check that fails
module _ (a : Ask) (factory : ℕ) where
  pub fault_2 : not (is_depth a.depth) ≡ true → 2 ≡ first_of (ask_rows a factory)
  unfolding ask_rows
  fault_2 e = row_fails _ e

  module _ (d : not (is_depth a.depth) ≡ false) where
    pub fault_11 : a.depth < 8 → 11 ≡ first_of (ask_rows a factory)
    unfolding ask_rows
    fault_11 e = row_passes 2 _ d (row_fails _ (lt-ltb a.depth 8 e))

    module _ (n : 8 ≤ a.depth) where
      pub fault_12 : (eqb a.depth 8 && (ltb 255 a.bar || ltb 255 a.background)) ≡ true → 12 ≡ first_of (ask_rows a factory)
      unfolding ask_rows
      fault_12 e = row_passes 2 _ d (row_passes 11 _ (le-ltb a.depth 8 n) (row_fails _ e))

      module _ (c : (eqb a.depth 8 && (ltb 255 a.bar || ltb 255 a.background)) ≡ false) where
        pub fault_hours : not (leb 1 a.hours && leb a.hours 24) ≡ true → 27 ≡ first_of (ask_rows a factory)
        unfolding ask_rows
        fault_hours e = row_passes 2 _ d (row_passes 11 _ (le-ltb a.depth 8 n) (row_passes 12 _ c (row_fails _ e)))

        module _ (h : not (leb 1 a.hours && leb a.hours 24) ≡ false) where
          pub fault_column : not (leb 1 a.column && leb a.column 16) ≡ true → 27 ≡ first_of (ask_rows a factory)
          unfolding ask_rows
          fault_column e = row_passes 2 _ d (row_passes 11 _ (le-ltb a.depth 8 n) (row_passes 12 _ c (row_passes 27 _ h (row_fails _ e))))

          module _ (w : not (leb 1 a.column && leb a.column 16) ≡ false) where
            by_font : (x : ℕ) → x ≡ first_of (row 27 (not (leb 80 factory)) ∷ []) → x ≡ first_of (ask_rows a factory)
            unfolding ask_rows
            by_font x e = row_passes 2 _ d (row_passes 11 _ (le-ltb a.depth 8 n) (row_passes 12 _ c (row_passes 27 _ h (row_passes 27 _ w e))))

            pub fault_font : factory < 80 → 27 ≡ first_of (ask_rows a factory)
            fault_font e = by_font 27 (row_fails [] (ap not (lt-leb 80 factory e)))

            pub fault_none : 80 ≤ factory → 0 ≡ first_of (ask_rows a factory)
            fault_none e = by_font 0 (row_passes 27 [] (ap not (le-leb 80 factory e)) rows_end)

-- what they leave known
eight_or_sixteen : (d : ℕ) → is_depth d ≡ true → 8 ≤ d → (d ≡ 8) ⊎ (d ≡ 16)
unfolding is_depth
eight_or_sixteen d e h =
    or_elim (eqb d 1) _ e (λ p. absurd (omega (arith, eqb-true d 1 p))) (λ e2.
    or_elim (eqb d 2) _ e2 (λ p. absurd (omega (arith, eqb-true d 2 p))) (λ e4.
    or_elim (eqb d 4) _ e4 (λ p. absurd (omega (arith, eqb-true d 4 p))) (λ e8.
    or_elim (eqb d 8) _ e8 (λ p. inl (eqb-true d 8 p)) (λ p. inr (eqb-true d 16 p)))))

or_left : (a b : Bool) → (a || b) ≡ false → a ≡ false
or_left true b h = h
or_left false b h = refl

or_right : (a b : Bool) → (a || b) ≡ false → b ≡ false
or_right true b h = absurd (true≢false h)
or_right false b h = h

-- colours at depth 8
no_fault : (d b g : Bool) → (d && (b || g)) ≡ false → d ≡ true → (b ≡ false) × (g ≡ false)
no_fault true true g e h = absurd (true≢false e)
no_fault true false g e h = (refl, e)
no_fault false b g e h = absurd (true≢false (sym h))

module _ (a : Ask) (n : ℕ) (e : first_of (ask_rows a n) ≡ 0) where
  passes : AllPass (ask_rows a n)
  passes = none (ask_rows a n) (asked_numbered a n) e

  pub asked_depth : is_depth a.depth ≡ true
  unfolding ask_rows AllPass
  asked_depth = not-false (is_depth a.depth) passes.0

  pub asked_hours : (1 ≤ a.hours) × (a.hours ≤ 24)
  unfolding ask_rows AllPass
  asked_hours =
      let h = not-false (leb 1 a.hours && leb a.hours 24) passes.1.1.1.0 in
      (leb-true 1 a.hours (and_left (leb 1 a.hours) (leb a.hours 24) h), leb-true a.hours 24 (and_right (leb 1 a.hours) (leb a.hours 24) h))

  pub asked_column : (1 ≤ a.column) × (a.column ≤ 16)
  unfolding ask_rows AllPass
  asked_column =
      let h = not-false (leb 1 a.column && leb a.column 16) passes.1.1.1.1.0 in
      (leb-true 1 a.column (and_left (leb 1 a.column) (leb a.column 16) h), leb-true a.column 16 (and_right (leb 1 a.column) (leb a.column 16) h))

  pub asked_font : 80 ≤ n
  unfolding ask_rows AllPass
  asked_font = leb-true 80 n (not-false (leb 80 n) passes.1.1.1.1.1.0)

  asked_colours : a.depth ≡ 8 → (a.bar ≤ 255) × (a.background ≤ 255)
  unfolding ask_rows AllPass
  asked_colours d =
      let h = no_fault (eqb a.depth 8) (ltb 255 a.bar) (ltb 255 a.background) passes.1.1.0 (eq-eqb a.depth 8 d) in
      (ltb-false 255 a.bar h.0, ltb-false 255 a.background h.1)

  pub asked : Checked a
  unfolding ask_rows AllPass
  asked =
      record {
        depth = eight_or_sixteen a.depth asked_depth (ltb-false a.depth 8 passes.1.0);
        bar = λ d. (asked_colours d).0;
        background = λ d. (asked_colours d).1;
        hours = asked_hours.1;
        column = asked_column.1;
      }

-- ---- the strip's answer
-- a number of the first checks is the answer
pub faulty : (t : Strip) (room wordRoom n : ℕ) → n ≡ first_of (ask_rows t.ask (length t.factory)) → (n ≡ 0 → ⊥) → first_of (strip_rows t room wordRoom) ≡ n
unfolding strip_rows
faulty t room wordRoom n e h = first_part (ask_rows t.ask (length t.factory)) _ (omega (arith, e, h)) ∙ sym e

module _ (t : Strip) (list words : List ℕ) where
  -- refused, nothing is stored
  module _ (r : Refusal) (e : first_of (strip_rows t (length list) (length words)) ≡ number r) where
    some : number r ≡ 0 → ⊥
    some z = let p = number_positive r in omega (arith, p)

    pub refused_numbers : stripping_of (Err r) ≡ stripping t (length list) (length words)
    unfolding stripping_by stripping
    refused_numbers = rw (e, ne_eqb (number r) 0 some)

    refused_number : (stripping t (length list) (length words)).number ≡ number r
    unfolding stripping_by
    refused_number = ap (λ (s : Stripping). s.number) (sym refused_numbers)

    pub refused_list : list ≡ list_after t list words
    unfolding list_after
    refused_list = rw (refused_number, ne_eqb (number r) 0 some)

    pub refused_words : words ≡ words_after t list words
    unfolding words_after
    refused_words = rw (refused_number, ne_eqb (number r) 0 some)

    pub refused_answer : Err r ≡ answer_of (stripping t (length list) (length words))
    unfolding answer_of
    refused_answer = sym (refused_with _ r _ (sym refused_number))

    pub refused_strip : (stripping_of (Err r) ≡ stripping t (length list) (length words)) × ((list ≡ list_after t list words) × (words ≡ words_after t list words))
    refused_strip = (refused_numbers, (refused_list, refused_words))

  -- made: both buffers hold the result and what lies past it
  module _ (e : first_of (strip_rows t (length list) (length words)) ≡ 0) where
    pub made_numbers : (bytes count : ℕ) → bytes ≡ length (strip_list t) → count ≡ length (strip_words t) → stripping_of (Ok (record { bytes = bytes; words = count })) ≡ stripping t (length list) (length words)
    unfolding stripping_by stripping
    made_numbers bytes count p q = rw (e, p, q)

    made_number : (stripping t (length list) (length words)).number ≡ 0
    unfolding stripping
    made_number = rw e

    pub made_list : (new : List ℕ) → new ≡ sets list 0 (strip_list t) → length (strip_list t) ≤ length list → new ≡ list_after t list words
    unfolding list_after
    made_list new s h = rw made_number (s ∙ sets_over list (strip_list t) h)

    pub made_words : (new : List ℕ) → new ≡ sets words 0 (strip_words t) → length (strip_words t) ≤ length words → new ≡ words_after t list words
    unfolding words_after
    made_words new s h = rw made_number (s ∙ sets_over words (strip_words t) h)

  pub answered : (r : Result Made Refusal) → stripping_of r ≡ stripping t (length list) (length words) → r ≡ answer_of (stripping t (length list) (length words))
  unfolding answer_of stripping_by
  answered (Ok m) e = rw (← e) (sym (accepted m 0 refl))
  answered (Err r) e = rw (← e) (sym (refused_with _ r (number r) refl))

-- ---- room that is asked for at most
pub count_most : (hs : List ℕ) → command_count hs ≤ 2 * length hs
unfolding command_count
count_most [] = omega arith
count_most (h ∷ hs) = omega (arith, count_most hs, both_ways (λ (n : ℕ). n ≤ 2) (eqb h 0) 1 2 (λ e. omega arith) (λ e. omega arith))

pub words_most : (n depth w : ℕ) → n ≤ 5 → w ≡ 8 * line_words depth 8 → n * w ≤ 320
unfolding line_words
words_most n depth w h e = mul-le-mul {n₂ = 5} {m₂ = 64} h (omega (arith, e, both_ways (λ (k : ℕ). k ≤ 8) (eqb depth 8) 4 8 (λ q. omega arith) (λ q. omega arith)))

-- ---- the strip of heights and digits, for an ask without a fault
module _ (a : Ask) (heights digits site factory : List ℕ) where
  abbrev strip : Strip
  strip = strip_with a heights digits site factory

  pub strip_bytes : length (strip_list strip) ≡ 32 * (command_count heights + length digits)
  unfolding strip_commands
  strip_bytes =
      length_list (columns a 0 heights ++ writes a 0 digits)
      ∙ ap (λ (n : ℕ). 32 * n) (length-append (columns a 0 heights) (writes a 0 digits) ∙ (λ t. columns_count a 0 heights t + writes_count a 0 digits t))

  -- the columns' bytes, and the number's behind them
  pub strip_parts : strip_list strip ≡ list_bytes (columns a 0 heights) ++ list_bytes (writes a 0 digits)
  unfolding strip_commands
  strip_parts = list_append (columns a 0 heights) (writes a 0 digits)

  pub strip_length : length (strip_list strip) ≡ length (list_bytes (columns a 0 heights)) + length (list_bytes (writes a 0 digits))
  strip_length = ap (λ (l : List ℕ). length l) strip_parts ∙ length-append (list_bytes (columns a 0 heights)) (list_bytes (writes a 0 digits))

  pub strip_stored : (list l1 l2 : List ℕ) (at : ℕ) → l1 ≡ sets list 0 (list_bytes (columns a 0 heights)) → at ≡ length (list_bytes (columns a 0 heights))
      → l2 ≡ sets l1 at (list_bytes (writes a 0 digits)) → l2 ≡ sets list 0 (strip_list strip)
  strip_stored list l1 l2 at e f g =
      let z : at ≡ 0 + length (list_bytes (columns a 0 heights)) = omega (arith, f) in
      g ∙ (λ t. sets (e t) (z t) (list_bytes (writes a 0 digits)))
      ∙ sym (ap (λ (b : List ℕ). sets list 0 b) strip_parts ∙ sets_append list 0 (list_bytes (columns a 0 heights)) (list_bytes (writes a 0 digits)))

  -- its checks come down to reach and room
  module _ (room wordRoom : ℕ) (e : first_of (ask_rows a (length factory)) ≡ 0) where
    rows_left : first_of (strip_rows strip room wordRoom) ≡ cond (not (all_in_reach (columns a 0 heights) && all_in_reach (writes a 0 digits))) 27 (cond (ltb room (length (strip_list strip)) || ltb wordRoom (length (strip_words strip))) 17 0)
    unfolding strip_rows strip_commands first_of
    rows_left =
        second_part (ask_rows a (length factory)) _ (none (ask_rows a (length factory)) (asked_numbered a (length factory)) e)
        ∙ ap (λ (b : Bool). cond (not b) 27 (cond (ltb room (length (strip_list strip)) || ltb wordRoom (length (strip_words strip))) 17 0)) (reach_append (columns a 0 heights) (writes a 0 digits))

    module _ (bytes count w : ℕ) (b : bytes ≡ 32 * (command_count heights + length digits)) (d : w ≡ 8 * line_words a.depth 8) (k : count ≡ length digits * w) where
      bytes_are : bytes ≡ length (strip_list strip)
      bytes_are = b ∙ sym strip_bytes

      words_are : count ≡ length (strip_words strip)
      words_are = k ∙ ap (λ (x : ℕ). length digits * x) d ∙ sym (digit_words_count a site factory digits)

      -- by what the two tests found
      rows_found : first_of (strip_rows strip room wordRoom) ≡ cond (not (all_in_reach (columns a 0 heights) && all_in_reach (writes a 0 digits))) 27 (cond (ltb room bytes || ltb wordRoom count) 17 0)
      rows_found = rows_left ∙ (λ t. cond (not (all_in_reach (columns a 0 heights) && all_in_reach (writes a 0 digits))) 27 (cond (ltb room (sym bytes_are t) || ltb wordRoom (sym words_are t)) 17 0))

      module _ (r s : Bool) (p : r ≡ all_in_reach (columns a 0 heights)) (q : s ≡ all_in_reach (writes a 0 digits)) where
        rows_by : first_of (strip_rows strip room wordRoom) ≡ cond (not (r && s)) 27 (cond (ltb room bytes || ltb wordRoom count) 17 0)
        rows_by = rows_found ∙ (λ t. cond (not (sym p t && sym q t)) 27 (cond (ltb room bytes || ltb wordRoom count) 17 0))

        pub strip_far : not (r && s) ≡ true → first_of (strip_rows strip room wordRoom) ≡ 27
        strip_far e = rows_by ∙ (rw e)

        pub strip_short : not (r && s) ≡ false → (ltb room bytes || ltb wordRoom count) ≡ true → first_of (strip_rows strip room wordRoom) ≡ 17
        strip_short e f = rows_by ∙ (rw (e, f))

        pub strip_made_lem : not (r && s) ≡ false → (ltb room bytes || ltb wordRoom count) ≡ false → first_of (strip_rows strip room wordRoom) ≡ 0
        strip_made_lem e f = rows_by ∙ (rw (e, f))

        -- both in reach
        pub columns_near : not (r && s) ≡ false → all_in_reach (columns a 0 heights) ≡ true
        columns_near e = sym p ∙ and_left r s (not-false (r && s) e)

        pub writes_near : not (r && s) ≡ false → all_in_reach (writes a 0 digits) ≡ true
        writes_near e = sym q ∙ and_right r s (not-false (r && s) e)

      -- both have room
      module _ (f : (ltb room bytes || ltb wordRoom count) ≡ false) where
        pub list_room : length (strip_list strip) ≤ room
        list_room = subst (λ (n : ℕ). n ≤ room) bytes_are (ltb-false room bytes (or_left (ltb room bytes) (ltb wordRoom count) f))

        pub word_room : length (strip_words strip) ≤ wordRoom
        word_room = subst (λ (n : ℕ). n ≤ wordRoom) words_are (ltb-false wordRoom count (or_right (ltb room bytes) (ltb wordRoom count) f))

  -- made, with all that was stored
  pub whole_strip : (list words l1 l2 new : List ℕ) (at bytes count w : ℕ) → first_of (strip_rows strip (length list) (length words)) ≡ 0
      → bytes ≡ 32 * (command_count heights + length digits) → w ≡ 8 * line_words a.depth 8 → count ≡ length digits * w
      → length (strip_list strip) ≤ length list → length (strip_words strip) ≤ length words
      → l1 ≡ sets list 0 (list_bytes (columns a 0 heights)) → at ≡ length (list_bytes (columns a 0 heights)) → l2 ≡ sets l1 at (list_bytes (writes a 0 digits)) → new ≡ sets words 0 (strip_words strip)
      → (stripping_of (Ok (record { bytes = bytes; words = count })) ≡ stripping strip (length list) (length words)) × ((l2 ≡ list_after strip list words) × (new ≡ words_after strip list words))
  whole_strip list words l1 l2 new at bytes count w m b d k h v f g i j = (
    made_numbers strip list words m bytes count (b ∙ sym strip_bytes) (k ∙ ap (λ (x : ℕ). length digits * x) d ∙ sym (digit_words_count a site factory digits)),
    (made_list strip list words m l2 (strip_stored list l1 l2 at f g i) h, made_words strip list words m new j v),
  )

-- ---- the strip of a ring
pub ring_drawable : (r : Ring) (n : ℕ) → n ≤ 24 → Drawable (heights_of r n)
ring_drawable r n h = record { count = omega (arith, heights_count r n); low = heights_low r n }

pub digits_drawable : (any newest : ℕ) → AllBelow 10 (digits_in any newest)
digits_drawable any newest = λ k. both_ways (λ (l : List ℕ). get_or l k 0 < 10) (eqb any 0) [] (digits_of newest) (λ e. omega arith) (λ e. digits_low 5 newest k)

pub digits_few : (any newest : ℕ) → length (digits_in any newest) ≤ 5
digits_few any newest = both_ways (λ (l : List ℕ). length l ≤ 5) (eqb any 0) [] (digits_of newest) (λ e. omega arith) (λ e. digits_count 5 newest)

-- an answer, and both buffers afterwards, are those of a strip
abbrev StripIs : Strip → List ℕ → List ℕ → Result Made Refusal → List ℕ → List ℕ → Type 0
StripIs t list words r l w =
    (stripping_of r ≡ stripping t (length list) (length words))
    × ((r ≡ answer_of (stripping t (length list) (length words))) × ((l ≡ list_after t list words) × (w ≡ words_after t list words)))

pub strip_faulty : (t : Strip) (list words : List ℕ) (r : Refusal) → number r ≡ first_of (ask_rows t.ask (length t.factory)) → StripIs t list words (Err r) list words
strip_faulty t list words r e =
    let f = faulty t (length list) (length words) (number r) e (λ z. let p = number_positive r in omega (arith, p)) in
    (refused_numbers t list words r f, (refused_answer t list words r f, (refused_list t list words r f, refused_words t list words r f)))

pub strip_of : (r : Ring) (a : Ask) (site factory list words hs ds : List ℕ) → hs ≡ heights_of r a.hours → ds ≡ digits_in r.any r.newest → 1 ≤ a.hours
    → (answer : Result Made Refusal) (l w : List ℕ)
    → (stripping_of answer ≡ stripping (strip_with a hs ds site factory) (length list) (length words))
    × ((l ≡ list_after (strip_with a hs ds site factory) list words) × (w ≡ words_after (strip_with a hs ds site factory) list words))
    → StripIs (strip_for r a site factory) list words answer l w
strip_of r a site factory list words hs ds p q h answer l w e =
    let t : strip_with a hs ds site factory ≡ strip_for r a site factory = λ i. strip_with a (p i) (q i) site factory in
    let n = e.0 ∙ ap (λ (s : Strip). stripping s (length list) (length words)) t in (
      n,
      (
        answered (strip_for r a site factory) list words answer n,
        (e.1.0 ∙ ap (λ (s : Strip). list_after s list words) t, e.1.1 ∙ ap (λ (s : Strip). words_after s list words) t),
      ),
    )
