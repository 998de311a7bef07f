-- A task without a refusal of 1 to 16, 26 and 29, and where a refusal stands.
use Prim.Native.Nat.{ℕ, ◌*◌, ◌/◌, ◌%◌, ◌<◌, ◌≤◌}
use mathlib.Core.Path.{◌≡◌, refl, sym, ◌∙◌}
use mathlib.Core.List.{List, ◌++◌}
use mathlib.Core.Bool.{Bool, true, false, not, ◌&&◌, cond}
use mathlib.Core.Logic.{◌⊎◌, inl, inr}
use native.Mathlib.Omega.{arith}
use lib.ListN.{length}
use lib.Dec.{eqb, ltb, lit<}
use borrow.Author.Tests.{eqb-true, eqb-false, ne_eqb, ltb-false, lt-ltb, le-ltb, not-false}
use Rattle.record.specs.Checks.{Row, row, first_of, Refusal}
use Rattle.record.proofs.Checks.{none, passed, first_part, second_part, row_fails, row_passes, rows_end}
use Rattle.record.proofs.Lists.{length_parts}
use Rattle.screen.specs.Screen.{field_rows, screen_rows}
use Rattle.screen.specs.declared.Screen.{Screen}
use Rattle.screen.proofs.Read.{screen_numbered, accepts, read_accepted}
use Rattle.command.specs.Command.{names_command}
use Rattle.command.specs.Task.{is_form, Task, screen_in, commands_in, is_list, list_rows, first_refusal, all_words, word_rows, task_refusal}
use Rattle.command.proofs.Forms.{list_is}
use Rattle.command.proofs.Numbers.{all_of, first_passes, of_no_command}
use Rattle.command.proofs.Commands.{AllFine, all_fine, words_suffice, RefusesOne, refusal_place}

-- ---- rows 10, 11 and 16
pub record ListSays (form : ℕ) (s : Screen) (list : List ℕ) : Type 0 where
  pub formed : is_form form ≡ true
  pub whole : length list % form ≡ 0
  pub few : length list ≤ 64 * form
  pub deep : 0 < length list → 8 ≤ s.depth

pub list_says : (form : ℕ) (s : Screen) (list : List ℕ) → first_of (list_rows form s list) ≡ 0 → ListSays form s list
unfolding list_rows
list_says form s list e =
    let p = passed (row 10 _) _ (lit< tt) e in
    let q = passed (row 11 _) _ (lit< tt) p.1 in
    let w = list_is form list (not-false (is_list form list) p.0) in
    record { formed = w.0; whole = w.1; few = w.2; deep = λ h. deep (ltb 0 (length list)) (lt-ltb 0 (length list) h) q.0 }
  where
    deep : (t : Bool) → t ≡ true → (t && ltb s.depth 8) ≡ false → 8 ≤ s.depth
    deep t h f = ltb-false s.depth 8 (rw h at f)

module _ (t : Task) where
  pub words_left : all_words (screen_in t) (commands_in t) < length t.words → 16 ≡ first_of (word_rows t)
  unfolding word_rows
  words_left h = row_fails _ (lt-ltb _ _ h)

  pub words_fit : length t.words ≤ all_words (screen_in t) (commands_in t) → 0 ≡ first_of (word_rows t)
  unfolding word_rows
  words_fit h = row_passes 16 _ (le-ltb _ _ h) rows_end

  pub words_say : first_of (word_rows t) ≡ 0 → length t.words ≤ all_words (screen_in t) (commands_in t)
  unfolding word_rows
  words_say e = ltb-false _ _ (passed (row 16 _) _ (lit< tt) e).0

-- ---- the refusal, by the check that fails
module _ (m : ℕ) (t : Task) where
  pub by_screen : (n : ℕ) → 0 < n → first_of (screen_rows m t.screen) ≡ n → task_refusal m t ≡ record { number = n; place = 0 }
  unfolding task_refusal
  by_screen n h e =
      let f : first_of (screen_rows m t.screen ++ list_rows t.form (screen_in t) t.list) ≡ n = first_part (screen_rows m t.screen) (list_rows t.form (screen_in t) t.list) (rw e h) ∙ e in
      rw (f, ne_eqb n 0 (λ z. omega arith))

  module _ (e : first_of (screen_rows m t.screen) ≡ 0) where
    first_is : first_of (screen_rows m t.screen ++ list_rows t.form (screen_in t) t.list) ≡ first_of (list_rows t.form (screen_in t) t.list)
    first_is = second_part (screen_rows m t.screen) (list_rows t.form (screen_in t) t.list) (none (screen_rows m t.screen) (screen_numbered m t.screen) e)

    pub by_list : (n : ℕ) → 0 < n → first_of (list_rows t.form (screen_in t) t.list) ≡ n → task_refusal m t ≡ record { number = n; place = 0 }
    unfolding task_refusal
    by_list n h f = rw (first_is, f, ne_eqb n 0 (λ z. omega arith))

    module _ (f : first_of (list_rows t.form (screen_in t) t.list) ≡ 0) where
      pub by_command : (n i : ℕ) → 0 < n → first_refusal m (screen_in t) 0 (length t.words) (commands_in t) ≡ record { number = n; place = i } → task_refusal m t ≡ record { number = n; place = i }
      unfolding task_refusal
      by_command n i h d = rw (first_is, f, d, ne_eqb n 0 (λ z. omega arith))

      pub by_end : (first_refusal m (screen_in t) 0 (length t.words) (commands_in t)).number ≡ 0 → task_refusal m t ≡ record { number = first_of (word_rows t); place = 0 }
      unfolding task_refusal
      by_end d = rw (first_is, f, d)

-- ---- none of 1 to 16, 26 and 29
pub record Accepted (m : ℕ) (t : Task) : Type 0 where
  pub number : (task_refusal m t).number ≡ 0
  pub screen : first_of (screen_rows m t.screen) ≡ 0
  pub fields : first_of (field_rows m (screen_in t)) ≡ 0
  pub flag : (screen_in t).flag ≤ 1
  pub formed : is_form t.form ≡ true
  pub whole : length t.list % t.form ≡ 0
  pub few : length t.list ≤ 64 * t.form
  pub deep : 0 < length t.list → 8 ≤ (screen_in t).depth
  pub none_refused : (first_refusal m (screen_in t) 0 (length t.words) (commands_in t)).number ≡ 0
  pub fine : AllFine m (screen_in t) (length t.words) (commands_in t)
  pub taken : all_words (screen_in t) (commands_in t) ≡ length t.words

first_zero : (a b : List Row) → first_of (a ++ b) ≡ 0 → first_of a ≡ 0
first_zero a b e = chosen (eqb (first_of a) 0) refl
  where
    chosen : (t : Bool) → eqb (first_of a) 0 ≡ t → first_of a ≡ 0
    chosen true h = eqb-true (first_of a) 0 h
    chosen false h = absurd (above (eqb-false (first_of a) 0 h))
      where
        above : (first_of a ≡ 0 → ⊥) → ⊥
        above g = let k : 0 < first_of a = omega arith in omega (arith, first_part a b k)

-- the first of f, a refusal d in the list, and e
abbrev first_in_lem : ℕ → Refusal → ℕ → Refusal
first_in_lem f d e = cond (not (eqb f 0)) (record { number = f; place = 0 }) (cond (not (eqb d.number 0)) d (record { number = e; place = 0 }))

no_number_lem : (f e : ℕ) (d : Refusal) → (first_in_lem f d e).number ≡ 0 → (f ≡ 0) × (d.number ≡ 0) × (e ≡ 0)
no_number_lem f e d h = chosen (eqb f 0) (eqb d.number 0) refl refl h
  where
    chosen : (t u : Bool) → eqb f 0 ≡ t → eqb d.number 0 ≡ u → (cond (not t) (record { number = f; place = 0 }) (cond (not u) d (record { number = e; place = 0 }))).number ≡ 0 → (f ≡ 0) × (d.number ≡ 0) × (e ≡ 0)
    chosen true true p q k = (eqb-true f 0 p, eqb-true d.number 0 q, k)
    chosen true false p q k = absurd (eqb-false d.number 0 q k)
    chosen false u p q k = absurd (eqb-false f 0 p k)

pub accepted_says : (m : ℕ) (t : Task) → (task_refusal m t).number ≡ 0 → Accepted m t
unfolding task_refusal
accepted_says m t e =
    let sc = screen_rows m t.screen in
    let li = list_rows t.form (screen_in t) t.list in
    let p = no_number_lem (first_of (sc ++ li)) (first_of (word_rows t)) (first_refusal m (screen_in t) 0 (length t.words) (commands_in t)) e in
    let s = first_zero sc li p.0 in
    let r = read_accepted m t.screen (screen_in t) (sym (accepts m t.screen s)) in
    let l = list_says t.form (screen_in t) t.list (sym (second_part sc li (none sc (screen_numbered m t.screen) s)) ∙ p.0) in
    let a = all_fine m (screen_in t) 0 (length t.words) (commands_in t) p.1 in
    record {
      number = e;
      screen = s;
      fields = r.2;
      flag = r.3;
      formed = l.formed;
      whole = l.whole;
      few = l.few;
      deep = l.deep;
      none_refused = p.1;
      fine = a;
      taken = omega (arith, words_suffice m (screen_in t) (length t.words) (commands_in t) a, words_say t p.2);
    }

-- ---- where a refusal stands
-- a command of the list that the number names, else place 0
abbrev pub Placed : ℕ → Refusal → Type 0
Placed count r = RefusesOne count r ⊎ ((names_command r.number ≡ false) × (r.place ≡ 0))

placed_by : (count f e : ℕ) (d : Refusal) → (0 < f → names_command f ≡ false) → (0 < d.number → RefusesOne count d) → (0 < e → names_command e ≡ false) → Placed count (first_in_lem f d e)
placed_by count f e d hf hd he = chosen (eqb f 0) (eqb d.number 0) (eqb e 0) refl refl refl
  where
    above : (n : ℕ) → (n ≡ 0 → ⊥) → 0 < n
    above n g = omega arith

    none_named : (n : ℕ) → n ≡ 0 → names_command n ≡ false
    none_named n h = rw h refl

    chosen : (t u v : Bool) → eqb f 0 ≡ t → eqb d.number 0 ≡ u → eqb e 0 ≡ v → Placed count (cond (not t) (record { number = f; place = 0 }) (cond (not u) d (record { number = e; place = 0 })))
    chosen true true true p q r = inr (none_named e (eqb-true e 0 r), refl)
    chosen true true false p q r = inr (he (above e (eqb-false e 0 r)), refl)
    chosen true false v p q r = inl (hd (above d.number (eqb-false d.number 0 q)))
    chosen false u v p q r = inr (hf (above f (eqb-false f 0 p)), refl)

-- a number that names no command
no_name : (rows : List Row) → all_of of_no_command rows ≡ true → 0 < first_of rows → names_command (first_of rows) ≡ false
no_name rows e h = not-true (names_command (first_of rows)) (first_passes of_no_command rows e h)
  where
    not-true : (t : Bool) → not t ≡ true → t ≡ false
    not-true true q = sym q
    not-true false q = refl

module _ (m : ℕ) (t : Task) where
  first_number : 0 < first_of (screen_rows m t.screen ++ list_rows t.form (screen_in t) t.list) → names_command (first_of (screen_rows m t.screen ++ list_rows t.form (screen_in t) t.list)) ≡ false
  unfolding screen_rows field_rows list_rows all_of
  first_number h = no_name (screen_rows m t.screen ++ list_rows t.form (screen_in t) t.list) refl h

  last_number : 0 < first_of (word_rows t) → names_command (first_of (word_rows t)) ≡ false
  unfolding word_rows all_of
  last_number h = no_name (word_rows t) refl h

  in_list : 0 < (first_refusal m (screen_in t) 0 (length t.words) (commands_in t)).number → RefusesOne (length t.list / t.form) (first_refusal m (screen_in t) 0 (length t.words) (commands_in t))
  in_list h = let k = refusal_place m (screen_in t) 0 (length t.words) (commands_in t) h in (k.0, omega (arith, k.1, length_parts t.form t.list))

  pub task_placed : Placed (length t.list / t.form) (task_refusal m t)
  unfolding task_refusal
  task_placed = placed_by (length t.list / t.form) (first_of (screen_rows m t.screen ++ list_rows t.form (screen_in t) t.list)) (first_of (word_rows t)) (first_refusal m (screen_in t) 0 (length t.words) (commands_in t)) first_number in_list last_number
