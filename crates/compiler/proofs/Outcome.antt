-- What compiling tells, check by check.
use Prim.Native.Nat.{ℕ, ◌+◌, ◌*◌, ◌/◌, ◌<◌, ◌≤◌}
use mathlib.Core.Path.{◌≡◌, sym, ap, subst, ◌∙◌}
use mathlib.Core.List.{List, ◌++◌}
use mathlib.Core.Bool.{true}
use native.Mathlib.Omega.{arith}
use lib.ListN.{length, length-append}
use lib.Seq.{sets, length-sets}
use lib.Dec.{lit<}
use borrow.Author.Tests.{ne_eqb, ltb-false, lt-ltb, le-ltb}
use Rattle.record.specs.Record.{stream_bytes}
use Rattle.record.specs.Checks.{row, first_of, Refusal}
use Rattle.record.proofs.Checks.{passed, row_fails, row_passes, rows_end}
use Rattle.record.proofs.Lists.{length_parts}
use Rattle.record.proofs.Stores.{length_stream}
use Rattle.screen.specs.Screen.{fields_of, screen_rows, screen_of}
use Rattle.screen.specs.declared.Screen.{Screen}
use Rattle.screen.proofs.Read.{read_accepted, screen_listed}
use Rattle.command.specs.Task.{is_form, Task, screen_in, commands_in, list_rows, first_refusal, all_words, word_rows, task_refusal}
use Rattle.command.proofs.Commands.{all_fine, words_suffice, refusal_listed}
use Rattle.command.proofs.Task.{list_says, words_left, words_fit, by_screen, by_list, by_command, by_end}
use Rattle.compiler.specs.Stream.{screen_records, draw_records, records_for, records_in}
use Rattle.compiler.specs.Compile.{room_rows, refusal_of, compiling, stream_of, buffer_after, compiling_of, answer_of}
use Rattle.compiler.specs.Pass.{pass_of}
use Rattle.compiler.specs.declared.Compiled.{Compiled}
use Rattle.std.specs.Prelude.{Result, Ok, Err}
use Rattle.refusal.specs.Number as refusals
use Rattle.refusal.specs.declared.Refusal.{Refusal as Named}
use Rattle.refusal.specs.declared.Refusal.TheVariants.{WordsLeft, Room}
use Rattle.refusal.specs.declared.Refused.{Refused}
use Rattle.refusal.proofs.Numbers.{refused_first, accepted_by_at, refused_by_at, number_positive}
use Rattle.compiler.proofs.Answered.{refused_by_lem, accepted_by}
use Rattle.compiler.proofs.Lengths.{length_screen, length_records}
use Rattle.compiler.proofs.SecondPass.{stored_both}

-- ---- row 17, behind the task's
module _ (t : Task) (room : ℕ) where
  room_short : room < 8 * length (records_in t) → 17 ≡ first_of (room_rows t room)
  unfolding room_rows
  room_short h = row_fails _ (lt-ltb _ _ h)

  room_fits : 8 * length (records_in t) ≤ room → 0 ≡ first_of (room_rows t room)
  unfolding room_rows
  room_fits h = row_passes 17 _ (le-ltb _ _ h) rows_end

  pub room_says : first_of (room_rows t room) ≡ 0 → 8 * length (records_in t) ≤ room
  unfolding room_rows
  room_says e = ltb-false _ _ (passed (row 17 _) _ (lit< tt) e).0

module _ (m : ℕ) (t : Task) (room : ℕ) where
  -- a task that is refused, and one that is not
  pub by_task : (n i : ℕ) → 0 < n → task_refusal m t ≡ record { number = n; place = i } → refusal_of m t room ≡ record { number = n; place = i }
  unfolding refusal_of
  by_task n i h e = rw (e, ne_eqb n 0 (λ z. omega arith))

  pub by_room : (task_refusal m t).number ≡ 0 → refusal_of m t room ≡ record { number = first_of (room_rows t room); place = 0 }
  unfolding refusal_of
  by_room e = rw e

-- an answer with all its numbers, and the buffer that goes with it
abbrev pub Told : ℕ → Task → List ℕ → Result Compiled Refused → List ℕ → Type 0
Told m t old r new = (compiling_of r ≡ compiling m t (length old)) × ((r ≡ answer_of (compiling m t (length old))) × (new ≡ buffer_after m t old))

module _ (m : ℕ) (t : Task) (old : List ℕ) where
  refused_told : (x : Refused) → refusal_of m t (length old) ≡ record { number = refusals.number x.refusal; place = x.place } → Told m t old (Err x) old
  unfolding compiling buffer_after
  refused_told x e = refused_by_lem (refusal_of m t (length old)) (screen_in t) (8 * length (records_in t)) (stream_of t) old x e

  task_told : (x : Refused) → task_refusal m t ≡ record { number = refusals.number x.refusal; place = x.place } → Told m t old (Err x) old
  task_told x e = refused_told x (by_task m t (length old) (refusals.number x.refusal) x.place (number_positive x.refusal) e)

  accepted_told : (size : ℕ) (new : List ℕ) → (refusal_of m t (length old)).number ≡ 0 → size ≡ 8 * length (records_in t) → size ≤ length old → new ≡ sets old 0 (stream_bytes (records_in t))
      → Told m t old (Ok (record { length = size; depth = (screen_in t).depth; rotation = (screen_in t).rotation; flag = (screen_in t).flag })) new
  unfolding compiling buffer_after stream_of
  accepted_told size new e k h f =
      let fits : length (stream_bytes (records_in t)) ≤ length old = omega (arith, length_stream (records_in t)) in
      rw k (accepted_by (refusal_of m t (length old)) (screen_in t) (8 * length (records_in t)) (stream_bytes (records_in t)) old e fits new f)

-- ---- the first pass
-- a refusal is the first one, and what is accepted are the words
pass_refusal : (m : ℕ) (s : Screen) (left : ℕ) (commands : List (List ℕ)) (r : Refused) → pass_of m s left commands ≡ Err r → first_refusal m s 0 left commands ≡ record { number = refusals.number r.refusal; place = r.place }
unfolding pass_of
pass_refusal m s left commands r e =
    let f = first_refusal m s 0 left commands in
    let p = refused_by_at f.number f.place (all_words s commands) r (refusal_listed m s 0 left commands) e in
    λ i. record { number = p.0 i; place = p.1 i }

pass_words : (m : ℕ) (s : Screen) (left : ℕ) (commands : List (List ℕ)) (used : ℕ) → pass_of m s left commands ≡ Ok used → ((first_refusal m s 0 left commands).number ≡ 0) × (used ≡ all_words s commands)
unfolding pass_of
pass_words m s left commands used e = let f = first_refusal m s 0 left commands in accepted_by_at f.number f.place (all_words s commands) used e

-- the stream's bytes, by what it counts
size_is : (m : ℕ) (s : Screen) (commands : List (List ℕ)) (words : List ℕ) → (first_refusal m s 0 (length words) commands).number ≡ 0 → 8 * length (records_for s commands words) ≡ 48 + 72 * length commands + 8 * all_words s commands
size_is m s commands words e = omega (arith, length_records s words commands (words_suffice m s (length words) commands (all_fine m s 0 (length words) commands e)))

-- ---- each way to an answer, as the code goes
pub refused_screen : (m : ℕ) (bytes : List ℕ) (r : Named) → screen_of m bytes ≡ Err r → (first_of (screen_rows m bytes) ≡ refusals.number r) × (0 < refusals.number r)
unfolding screen_of
refused_screen m bytes r e = refused_first (screen_rows m bytes) (screen_listed m bytes) (fields_of bytes) r e

-- a refusal that names no place
abbrev pub at_0 : Named → Refused
at_0 r = record { refusal = r; place = 0 }

module _ (m : ℕ) (t : Task) (old : List ℕ) where
  pub told_screen : (r : Named) → screen_of m t.screen ≡ Err r → Told m t old (Err (at_0 r)) old
  told_screen r e = let p = refused_screen m t.screen r e in task_told m t old (at_0 r) (by_screen m t (refusals.number r) p.1 p.0)

  module _ (s : Screen) (a : screen_of m t.screen ≡ Ok s) where
    -- the screen is its record's fields
    fields : s ≡ screen_in t
    fields = (read_accepted m t.screen s a).0

    rows_pass : first_of (screen_rows m t.screen) ≡ 0
    rows_pass = (read_accepted m t.screen s a).1

    rows_of : first_of (list_rows t.form s t.list) ≡ first_of (list_rows t.form (screen_in t) t.list)
    rows_of = ap (λ (x : Screen). first_of (list_rows t.form x t.list)) fields

    pub told_list : (r : Named) → refusals.number r ≡ first_of (list_rows t.form s t.list) → Told m t old (Err (at_0 r)) old
    told_list r e = task_told m t old (at_0 r) (by_list m t rows_pass (refusals.number r) (number_positive r) (sym (e ∙ rows_of)))

    module _ (p : Result ℕ Refused) (p-is : p ≡ pass_of m s (length t.words) (commands_in t)) (none-fault : first_of (list_rows t.form s t.list) ≡ 0) where
      no_fault : first_of (list_rows t.form (screen_in t) t.list) ≡ 0
      no_fault = sym rows_of ∙ none-fault

      pass_of_lem : pass_of m (screen_in t) (length t.words) (commands_in t) ≡ p
      pass_of_lem = sym (p-is ∙ ap (λ (x : Screen). pass_of m x (length t.words) (commands_in t)) fields)

      pub told_command : (r : Refused) → p ≡ Err r → Told m t old (Err r) old
      told_command r e =
          task_told m t old r
          (by_command m t rows_pass no_fault (refusals.number r.refusal) r.place (number_positive r.refusal) (pass_refusal m (screen_in t) (length t.words) (commands_in t) r (pass_of_lem ∙ e)))

      module _ (used : ℕ) (z : p ≡ Ok used) where
        none_refused : (first_refusal m (screen_in t) 0 (length t.words) (commands_in t)).number ≡ 0
        none_refused = (pass_words m (screen_in t) (length t.words) (commands_in t) used (pass_of_lem ∙ z)).0

        words_are : used ≡ all_words (screen_in t) (commands_in t)
        words_are = (pass_words m (screen_in t) (length t.words) (commands_in t) used (pass_of_lem ∙ z)).1

        -- the last check of the task decides
        end_is : (n : ℕ) → n ≡ first_of (word_rows t) → task_refusal m t ≡ record { number = n; place = 0 }
        end_is n e = by_end m t rows_pass no_fault none_refused ∙ ap (λ (k : ℕ). record { number = k; place = 0 }) (sym e)

        pub told_left : used < length t.words → Told m t old (Err (at_0 WordsLeft)) old
        unfolding refusals.number
        told_left h = task_told m t old (at_0 WordsLeft) (end_is 16 (words_left t (omega (arith, words_are))))

        -- the size as the code has it
        whole_size : 48 + 72 * (length t.list / t.form) + 8 * used ≡ 8 * length (records_in t)
        whole_size = omega (arith, size_is m (screen_in t) (commands_in t) t.words none_refused, words_are, length_parts t.form t.list)

        module _ (w : length t.words ≤ used) where
          -- row 17 decides
          room_is : (n : ℕ) → n ≡ first_of (room_rows t (length old)) → refusal_of m t (length old) ≡ record { number = n; place = 0 }
          room_is n e =
              by_room m t (length old) (ap (λ (r : Refusal). r.number) (end_is 0 (words_fit t (omega (arith, words_are)))))
              ∙ ap (λ (k : ℕ). record { number = k; place = 0 }) (sym e)

          pub told_short : length old < 48 + 72 * (length t.list / t.form) + 8 * used → Told m t old (Err (at_0 Room)) old
          unfolding refusals.number
          told_short h = refused_told m t old (at_0 Room) (room_is 17 (room_short t (length old) (omega (arith, whole_size))))

          module _ (h : 48 + 72 * (length t.list / t.form) + 8 * used ≤ length old) where
            -- what the second pass asks, the screen's records being stored
            pub second_asks : (l1 : List ℕ) → l1 ≡ sets old 0 (stream_bytes (screen_records s))
                → (is_form t.form ≡ true) × (((first_refusal m s 0 (length t.words) (commands_in t)).number ≡ 0) × (48 + 8 * length (draw_records s t.words (commands_in t)) ≤ length l1))
            unfolding records_for
            second_asks l1 e =
                let k = length-append (screen_records (screen_in t)) (draw_records (screen_in t) t.words (commands_in t)) in
                let r : 48 + 8 * length (draw_records (screen_in t) t.words (commands_in t)) ≤ length old = omega (arith, whole_size, k, length_screen (screen_in t)) in
                ((list_says t.form (screen_in t) t.list no_fault).formed, (rw fields none_refused, rw (e, length-sets, fields) r))

            pub told_stream : (l1 l2 : List ℕ) → l1 ≡ sets old 0 (stream_bytes (screen_records s)) → l2 ≡ sets l1 48 (stream_bytes (draw_records s t.words (commands_in t)))
                → Told m t old (Ok (record { length = 48 + 72 * (length t.list / t.form) + 8 * used; depth = s.depth; rotation = s.rotation; flag = s.flag })) l2
            unfolding records_for
            told_stream l1 l2 e f =
                let g = room_is 0 (room_fits t (length old) (omega (arith, whole_size))) in
                let d = f ∙ ap (λ (b : List ℕ). sets b 48 (stream_bytes (draw_records s t.words (commands_in t)))) e
                ∙ sym (stored_both old 0 (screen_records s) (draw_records s t.words (commands_in t)) ∙ (rw (length_screen s))) in
                subst (λ (x : Screen). Told m t old (Ok (record { length = 48 + 72 * (length t.list / t.form) + 8 * used; depth = x.depth; rotation = x.rotation; flag = x.flag })) l2) (sym fields)
                (accepted_told m t old (48 + 72 * (length t.list / t.form) + 8 * used) l2 (ap (λ (r : Refusal). r.number) g) whole_size h (d ∙ ap (λ (x : Screen). sets old 0 (stream_bytes (screen_records x ++ draw_records x t.words (commands_in t)))) fields))
