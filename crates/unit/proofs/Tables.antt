-- Demand 1: compiling, playing and the point reader are each decided by one table of checks.
use mathlib.Core.Path.{◌≡◌, refl, sym, ap, subst, ◌∙◌}
use mathlib.Core.Bool.{Bool, true, false, not, cond}
use mathlib.Core.List.{List, [], ◌∷◌, ◌++◌, append_assoc}
use Prim.Native.Nat.{ℕ, suc, ◌+◌, ◌-◌, ◌*◌, ◌/◌, ◌%◌}
use native.Mathlib.Omega.{arith}
use lib.Dec.{eqb, lit<}
use lib.ListN.{length}
use Rattle.record.specs.Checks.{Row, row, rows_at, first_of, first_place, Refusal, Numbered}
use Rattle.record.specs.Record.{records_of}
use Rattle.record.specs.declared.Record.{Record}
use Rattle.record.proofs.Records.{records_count}
use Rattle.record.proofs.Checks.{none, nowhere, numbered_append, numbered_at, Placeless, placeless, placeless_append, parts, place_parts, at_parts, at_place_parts, accepted_exactly, refused_exactly, rows_end}
use Rattle.screen.specs.Screen.{field_rows, screen_rows}
use Rattle.screen.specs.declared.Screen.{Screen}
use Rattle.screen.specs.declared.ScreenValues.{ScreenValues}
use Rattle.screen.proofs.Read.{screen_numbered}
use Rattle.command.specs.Command.{command_of, words_taken, command_rows, refusal}
use Rattle.command.proofs.Answer.{command_numbered}
use Rattle.command.specs.Task.{Task, screen_in, commands_in, list_rows, first_refusal, word_rows, task_refusal}
use Rattle.compiler.specs.Stream.{records_in}
use Rattle.compiler.specs.Compile.{room_rows, refusal_of, compiling}
use Rattle.compiler.proofs.Answered.{answered_number, answered_place}
use Rattle.older.specs.Bytes.{older_memory}
use Rattle.older.specs.Compile.{lent_rows, older_rows, older_compiling}
use Rattle.older.proofs.Outcome.{lent_numbered, number_is, place_is}
use Rattle.chip.specs.Admit.{admit_rows, chip_after}
use Rattle.chip.specs.Play.{new_chip, run, refused_by, ending, playing}
use Rattle.chip.specs.declared.Chip.{Chip}
use Rattle.chip.proofs.Admits.{numbered as admit_numbered}
use Rattle.chip.proofs.Tables.{Says, table_end, table_step}
use Rattle.reader.specs.Read.{read_rows, reading}
use Rattle.reader.specs.declared.Display.{Display}
use Rattle.reader.proofs.Answer.{numbered as read_numbered, number_is as read_number_is, place_is as read_place_is}
use Rattle.unit.specs.Tables.{listed_rows, task_rows, compile_rows, record_rows, play_rows}
use Rattle.unit.specs.Demands.{Decided}

-- ---- rows have numbers above 0
pub list_numbered : (size : ℕ) (s : Screen) (list : List ℕ) → Numbered (list_rows size s list)
unfolding Numbered list_rows
list_numbered size s list = (lit< tt, (lit< tt, tt))

pub listed_numbered : (m : ℕ) (s : Screen) (i left : ℕ) (bs : List (List ℕ)) → Numbered (listed_rows m s i left bs)
unfolding listed_rows Numbered
listed_numbered m s i left [] = tt
listed_numbered m s i left (b ∷ bs) =
    numbered_append (rows_at i (command_rows m s left b (command_of b))) _ (numbered_at i (command_rows m s left b (command_of b)) (command_numbered m s left b (command_of b))) (listed_numbered m s (suc i) _ bs)

word_numbered : (t : Task) → Numbered (word_rows t)
unfolding Numbered word_rows
word_numbered t = (lit< tt, tt)

room_numbered : (t : Task) (room : ℕ) → Numbered (room_rows t room)
unfolding Numbered room_rows
room_numbered t room = (lit< tt, tt)

record_numbered : (m : ℕ) (c : Chip) (i : ℕ) (rs : List Record) → Numbered (record_rows m c i rs)
unfolding record_rows rows_at Numbered
record_numbered m c i [] = (lit< tt, tt)
record_numbered m c i (r ∷ rs) = numbered_append (rows_at i (admit_rows m c r)) _ (numbered_at i (admit_rows m c r) (admit_numbered m c r)) (record_numbered m (chip_after c r) (suc i) rs)

-- ---- rows that name no place
screen_placeless : (m : ℕ) (bytes : List ℕ) → Placeless (screen_rows m bytes)
unfolding Placeless screen_rows field_rows
screen_placeless m bytes = (refl, (refl, (refl, (refl, (refl, (refl, (refl, (refl, (refl, (refl, (refl, tt)))))))))))

list_placeless : (size : ℕ) (s : Screen) (list : List ℕ) → Placeless (list_rows size s list)
unfolding Placeless list_rows
list_placeless size s list = (refl, (refl, tt))

word_placeless : (t : Task) → Placeless (word_rows t)
unfolding Placeless word_rows
word_placeless t = (refl, tt)

room_placeless : (t : Task) (room : ℕ) → Placeless (room_rows t room)
unfolding Placeless room_rows
room_placeless t room = (refl, tt)

pub read_placeless : (m : ℕ) (d : Display) (v : ScreenValues) (p q : ℕ) (memory : List ℕ) → Placeless (read_rows m d v p q (length memory))
unfolding Placeless read_rows
read_placeless m d v p q memory = (refl, (refl, (refl, (refl, (refl, (refl, (refl, (refl, (refl, tt)))))))))

-- a number and a place that are a table's first are decided by the table
pub decided : {n i : ℕ} {rows : List Row} → n ≡ first_of rows → i ≡ first_place rows → Numbered rows → Decided n i rows
decided {n} {i} {rows} e g u =
    subst (λ (k : ℕ). Decided k i rows) (sym e)
    (subst (λ (k : ℕ). Decided (first_of rows) k rows) (sym g)
    (record {
      accepted = accepted_exactly rows u;
      nowhere = λ z. nowhere rows (none rows u z);
      refused = λ n i h. refused_exactly rows n i h;
    }))

-- ---- compiling
number_of_lem : (t : Bool) (p q : Refusal) → (cond t p q).number ≡ cond t p.number q.number
number_of_lem true p q = refl
number_of_lem false p q = refl

place_of : (t : Bool) (p q : Refusal) → (cond t p q).place ≡ cond t p.place q.place
place_of true p q = refl
place_of false p q = refl

turned : {A : Type 0} (t : Bool) (x y : A) → cond (not t) x y ≡ cond t y x
turned true x y = refl
turned false x y = refl

module _ (m : ℕ) (s : Screen) where
  pub listed_first : (i left : ℕ) (bs : List (List ℕ)) → (first_refusal m s i left bs).number ≡ first_of (listed_rows m s i left bs)
  unfolding first_refusal listed_rows refusal
  listed_first i left [] = rows_end
  listed_first i left (b ∷ bs) =
      let rows = command_rows m s left b (command_of b) in
      number_of_lem (eqb (first_of rows) 0) _ _
      ∙ ap (λ (n : ℕ). cond (eqb (first_of rows) 0) n (first_of rows)) (listed_first (suc i) (left - words_taken s (command_of b)) bs)
      ∙ sym (at_parts i rows (listed_rows m s (suc i) (left - words_taken s (command_of b)) bs) (command_numbered m s left b (command_of b)))

  pub listed_place : (i left : ℕ) (bs : List (List ℕ)) → (first_refusal m s i left bs).place ≡ first_place (listed_rows m s i left bs)
  unfolding first_refusal listed_rows refusal first_place
  listed_place i left [] = refl
  listed_place i left (b ∷ bs) =
      let rows = command_rows m s left b (command_of b) in
      place_of (eqb (first_of rows) 0) _ _
      ∙ ap (λ (n : ℕ). cond (eqb (first_of rows) 0) n i) (listed_place (suc i) (left - words_taken s (command_of b)) bs)
      ∙ sym (at_place_parts i rows (listed_rows m s (suc i) (left - words_taken s (command_of b)) bs) (command_numbered m s left b (command_of b)))

module _ (m : ℕ) (t : Task) where
  -- 1 to 11, 12 to 15 and 29, 16
  abbrev before : List Row
  before = screen_rows m t.screen ++ list_rows t.form (screen_in t) t.list

  abbrev after : List Row
  after = listed_rows m (screen_in t) 0 (length t.words) (commands_in t)

  abbrev ends : List Row
  ends = word_rows t

  abbrev in_list_lem : Refusal
  in_list_lem = first_refusal m (screen_in t) 0 (length t.words) (commands_in t)

  before_numbered : Numbered before
  before_numbered = numbered_append (screen_rows m t.screen) _ (screen_numbered m t.screen) (list_numbered t.form (screen_in t) t.list)

  before_nowhere : first_place before ≡ 0
  before_nowhere =
      placeless before (placeless_append (screen_rows m t.screen) _ (screen_placeless m t.screen) (list_placeless t.form (screen_in t) t.list))

  after_numbered : Numbered after
  after_numbered = listed_numbered m (screen_in t) 0 (length t.words) (commands_in t)

  task_first : (task_refusal m t).number ≡ first_of (task_rows m t)
  unfolding task_refusal task_rows
  task_first =
      number_of_lem (not (eqb (first_of before) 0)) _ _
      ∙ turned (eqb (first_of before) 0) _ _
      ∙ ap (λ (n : ℕ). cond (eqb (first_of before) 0) n (first_of before))
      (number_of_lem (not (eqb in_list_lem.number 0)) _ _
      ∙ turned (eqb in_list_lem.number 0) _ _
      ∙ ap (λ (n : ℕ). cond (eqb n 0) (first_of ends) n) (listed_first m (screen_in t) 0 (length t.words) (commands_in t))
      ∙ sym (parts after ends after_numbered))
      ∙ sym (parts before (after ++ ends) before_numbered)
      ∙ ap first_of (append_assoc (screen_rows m t.screen) (list_rows t.form (screen_in t) t.list) (after ++ ends))

  -- the place of 12 to 16
  listed_or_ended : (b : Bool) → (cond (not b) in_list_lem (record { number = first_of ends; place = 0 })).place ≡ cond b (first_place ends) (first_place after)
  listed_or_ended true = sym (placeless ends (word_placeless t))
  listed_or_ended false = listed_place m (screen_in t) 0 (length t.words) (commands_in t)

  -- the place of 1 to 16
  any_of : (b : Bool) (r : Refusal) (i : ℕ) → r.place ≡ i → (cond (not b) (record { number = first_of before; place = 0 }) r).place ≡ cond b i (first_place before)
  any_of true r i e = e
  any_of false r i e = sym before_nowhere

  task_place : (task_refusal m t).place ≡ first_place (task_rows m t)
  unfolding task_refusal task_rows
  task_place =
      any_of (eqb (first_of before) 0) _ (first_place (after ++ ends))
      (listed_or_ended (eqb in_list_lem.number 0)
      ∙ ap (λ (n : ℕ). cond (eqb n 0) (first_place ends) (first_place after)) (listed_first m (screen_in t) 0 (length t.words) (commands_in t))
      ∙ sym (place_parts after ends after_numbered))
      ∙ sym (place_parts before (after ++ ends) before_numbered)
      ∙ ap first_place (append_assoc (screen_rows m t.screen) (list_rows t.form (screen_in t) t.list) (after ++ ends))

  task_numbered : Numbered (task_rows m t)
  unfolding task_rows
  task_numbered =
      numbered_append (screen_rows m t.screen) _ (screen_numbered m t.screen)
      (numbered_append (list_rows t.form (screen_in t) t.list) _ (list_numbered t.form (screen_in t) t.list)
      (numbered_append after ends after_numbered (word_numbered t)))

  -- ---- and 17
  module _ (room : ℕ) where
    refusal_first : (refusal_of m t room).number ≡ first_of (compile_rows m t room)
    unfolding refusal_of compile_rows
    refusal_first =
        number_of_lem (eqb (task_refusal m t).number 0) _ _
        ∙ ap (λ (n : ℕ). cond (eqb n 0) (first_of (room_rows t room)) n) task_first
        ∙ sym (parts (task_rows m t) (room_rows t room) task_numbered)

    refusal_place : (refusal_of m t room).place ≡ first_place (compile_rows m t room)
    unfolding refusal_of compile_rows
    refusal_place =
        place_of (eqb (task_refusal m t).number 0) _ _
        ∙ (λ x. cond (eqb (task_first x) 0) (sym (placeless (room_rows t room) (room_placeless t room)) x) (task_place x))
        ∙ sym (place_parts (task_rows m t) (room_rows t room) task_numbered)

    rows_numbered : Numbered (compile_rows m t room)
    unfolding compile_rows
    rows_numbered = numbered_append (task_rows m t) (room_rows t room) task_numbered (room_numbered t room)

    pub compile_first : ((compiling m t room).number ≡ first_of (compile_rows m t room)) × ((compiling m t room).place ≡ first_place (compile_rows m t room))
    unfolding compiling
    compile_first =
        let r = refusal_of m t room in
        let size = 8 * length (records_in t) in (
          answered_number r (screen_in t) size ∙ refusal_first,
          answered_place r (screen_in t) size
              (λ z. refusal_place ∙ nowhere (compile_rows m t room) (none (compile_rows m t room) rows_numbered (sym refusal_first ∙ z)))
              ∙ refusal_place,
        )

    pub compile_decided : Decided (compiling m t room).number (compiling m t room).place (compile_rows m t room)
    compile_decided = decided compile_first.0 compile_first.1 rows_numbered

-- ---- compiling for the S1D13706
lent_placeless : (t : Task) (room : ℕ) → Placeless (lent_rows t room)
unfolding Placeless lent_rows
lent_placeless t room = (refl, (refl, (refl, (refl, tt))))

older_numbered : (t : Task) (room : ℕ) → Numbered (older_rows t room)
unfolding older_rows
older_numbered t room = numbered_append (screen_rows older_memory t.screen) _ (screen_numbered older_memory t.screen) (lent_numbered t room)

older_placeless : (t : Task) (room : ℕ) → Placeless (older_rows t room)
unfolding older_rows
older_placeless t room = placeless_append (screen_rows older_memory t.screen) _ (screen_placeless older_memory t.screen) (lent_placeless t room)

pub older_decided : (t : Task) (room : ℕ) → Decided (older_compiling t room).number (older_compiling t room).place (older_rows t room)
older_decided t room =
    decided (number_is t room) (place_is t room ∙ sym (placeless (older_rows t room) (older_placeless t room))) (older_numbered t room)

-- ---- playing
run_first : (m : ℕ) (c : Chip) (i n : ℕ) (rs : List Record) → i + length rs ≡ n → Says (ending (run m c i rs) n) (record_rows m c i rs)
unfolding record_rows
run_first m c i n [] h = subst (λ (k : ℕ). Says (ending (run m c i []) n) (rows_at k (row 23 c.due.any ∷ []))) (omega (arith, h)) (table_end m c i n)
run_first m c i n (r ∷ rs) h = table_step m c i r rs n (record_rows m (chip_after c r) (suc i) rs) (run_first m (chip_after c r) (suc i) n rs (omega (arith, h)))

module _ (m : ℕ) (stream memory : List ℕ) where
  play_first : Says (playing m stream memory) (play_rows m stream memory)
  unfolding playing play_rows first_of first_place
  play_first = by_size (not (eqb (length memory) m)) (not (eqb (length stream % 8) 0))
    where
      by_size : (t u : Bool)
          → Says (cond t (refused_by 18 0) (cond u (refused_by 19 0) (ending (run m new_chip 0 (records_of stream)) (length stream / 8))))
          (row 18 t ∷ (row 19 u ∷ record_rows m new_chip 0 (records_of stream)))
      by_size true u = (refl, refl)
      by_size false true = (refl, refl)
      by_size false false = run_first m new_chip 0 (length stream / 8) (records_of stream) (omega (arith, records_count stream))

  pub play_decided : Decided (playing m stream memory).number (playing m stream memory).place (play_rows m stream memory)
  unfolding play_rows Numbered
  play_decided = decided play_first.0 play_first.1 (lit< tt, (lit< tt, record_numbered m new_chip 0 (records_of stream)))

-- ---- the point reader
pub read_decided : (m : ℕ) (d : Display) (v : ScreenValues) (p q : ℕ) (memory : List ℕ)
    → Decided (reading m d v p q memory).number (reading m d v p q memory).place (read_rows m d v p q (length memory))
read_decided m d v p q memory =
    decided (read_number_is m d v p q memory)
    (read_place_is m d v p q memory ∙ sym (placeless (read_rows m d v p q (length memory)) (read_placeless m d v p q memory)))
    (read_numbered m d v p q (length memory))
