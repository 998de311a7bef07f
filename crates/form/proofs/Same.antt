-- A list that is turned long compiles and draws as before.
use Prim.Native.Nat.{ℕ, ◌*◌, ◌/◌, ◌%◌, ◌<◌}
use mathlib.Core.Path.{◌≡◌, refl, sym, ap, subst, ◌∙◌}
use mathlib.Core.List.{List, [], ◌∷◌, ◌++◌, map}
use mathlib.Core.Bool.{Bool, true, false, not, ◌&&◌, cond}
use native.Mathlib.Omega.{arith}
use lib.ListN.{length, get_or, take, drop, length-map, get_or-map}
use lib.Dec.{ltb, eqb}
use borrow.Author.Tests.{ltb-true, ltb-false, lt-ltb, le-ltb}
use Rattle.record.specs.Lists.{parts_of}
use Rattle.record.specs.Checks.{row, first_of}
use Rattle.record.specs.Record.{stream_bytes}
use Rattle.record.specs.declared.Record.{Record}
use Rattle.record.proofs.Lists.{length_parts}
use Rattle.screen.specs.Screen.{memory_size, fields_of, screen_rows}
use Rattle.screen.specs.Values.{values_of}
use Rattle.screen.specs.declared.Screen.{Screen}
use Rattle.command.specs.Command.{names_command}
use Rattle.command.specs.Task.{short_form, long_form, Task, task, commands_in, is_list, list_rows, first_refusal, all_words, word_rows, task_refusal}
use Rattle.command.proofs.Forms.{list_is}
use Rattle.compiler.specs.Stream.{screen_records, draw_records, records_for, records_in}
use Rattle.compiler.specs.Compile.{room_rows, refusal_of, Compiling, answered, compiling, stream_of, buffer_with, buffer_after}
use Rattle.compiler.specs.Part.{of_command, part_from, part_size}
use Rattle.compiler.proofs.Parts.{part_within}
use Rattle.older.specs.Bytes.{older_memory}
use Rattle.older.specs.Compile.{older_records, lent_rows, older_rows, older_compiling, older_buffer}
use Rattle.unit.specs.Sheet.{sheet_commands, sheet_after}
use Rattle.unit.specs.Draw.{refused_by, drawing, stream_drawn, memory_drawn}
use Rattle.form.specs.Turn.{record_in, turning}
use Rattle.form.specs.Claims.{turned_given, none_above, part_bytes, SameTask, TurnedSame}
use Rattle.form.proofs.Lists.{Each, each_part, part_at, parts_turned, list_turned}
use Rattle.form.proofs.Commands.{first_same, words_same, draw_same, sheet_same}
use Rattle.form.proofs.Accepted.{accepted_says, given_is}

-- a short list, no operation of which is above 2, and its long form
pub record Forms (list long : List ℕ) : Type 0 where
  pub low : none_above (parts_of short_form list) ≡ true
  pub listed : is_list short_form list ≡ true
  pub listed_long : is_list long_form long ≡ true
  pub parts : parts_of long_form long ≡ map (record_in long_form) (parts_of short_form list)

module _ (list long : List ℕ) (f : Forms list long) where
  abbrev commands : List (List ℕ)
  commands = parts_of short_form list

  each : Each short_form commands
  each = each_part short_form list

  -- as many commands
  count_same : length long / long_form ≡ length list / short_form
  count_same = sym (length_parts long_form long) ∙ ap length f.parts ∙ length-map commands (record_in long_form) ∙ length_parts short_form list

  -- what rows 10 and 11 ask
  list_same : is_list long_form long ≡ is_list short_form list
  list_same = f.listed_long ∙ sym f.listed

  any_same : ltb 0 (length long) ≡ ltb 0 (length list)
  any_same = either (ltb 0 (length list)) refl
    where
      short : length list % short_form ≡ 0
      short = (list_is short_form list f.listed).1

      whole : length long % long_form ≡ 0
      whole = (list_is long_form long f.listed_long).1

      either : (b : Bool) → ltb 0 (length list) ≡ b → ltb 0 (length long) ≡ ltb 0 (length list)
      either true e = lt-ltb 0 (length long) (omega (arith, ltb-true 0 (length list) e, short, whole, count_same)) ∙ sym e
      either false e = le-ltb 0 (length long) (omega (arith, ltb-false 0 (length list) e, short, whole, count_same)) ∙ sym e

  -- ---- the refused part, whatever the answer
  command_at : (i : ℕ) → i < length list / short_form → take long_form (drop (i * long_form) long) ≡ record_in long_form (take short_form (drop (i * short_form) list))
  command_at i h =
      sym (part_at long_form long i (record_in long_form []) (subst (λ (n : ℕ). i < n) (sym count_same) h))
      ∙ ap (λ (bs : List (List ℕ)). get_or bs i (record_in long_form [])) f.parts
      ∙ get_or-map (record_in long_form) commands i []
      ∙ ap (record_in long_form) (part_at short_form list i [] h)

  part_same : (c : Compiling) → part_bytes long_form long c ≡ cond (of_command short_form list c) (record_in long_form (part_bytes short_form list c)) []
  unfolding part_from part_size
  part_same c =
      ap (λ (n : ℕ). part (names_command c.number && ltb c.place n)) count_same
      ∙ chosen (of_command short_form list c) (part_within short_form list c)
    where
      part : Bool → List ℕ
      part b = take (cond b long_form 0) (drop (cond b (c.place * long_form) 0) long)

      chosen : (b : Bool) → (b ≡ true → c.place < length list / short_form)
          → part b ≡ cond b (record_in long_form (take (cond b short_form 0) (drop (cond b (c.place * short_form) 0) list))) []
      chosen true h = command_at c.place (h refl)
      chosen false h = refl

  -- ---- the task
  module _ (screen words : List ℕ) where
    abbrev t : Task
    t = task short_form screen list words

    abbrev u : Task
    u = task long_form screen long words

    abbrev s : Screen
    s = fields_of screen

    first : (m : ℕ) → first_refusal m s 0 (length words) (commands_in u) ≡ first_refusal m s 0 (length words) (commands_in t)
    first m = ap (first_refusal m s 0 (length words)) f.parts ∙ first_same long_form m s 0 (length words) commands each f.low

    taken : all_words s (commands_in u) ≡ all_words s (commands_in t)
    taken = ap (all_words s) f.parts ∙ words_same long_form s commands each

    rows : list_rows long_form s long ≡ list_rows short_form s list
    unfolding list_rows
    rows = λ i. row 10 (not (list_same i)) ∷ (row 11 (any_same i && ltb s.depth 8) ∷ [])

    records : records_in u ≡ records_in t
    unfolding records_for
    records = ap (λ (rs : List Record). screen_records s ++ rs) (ap (draw_records s words) f.parts ∙ draw_same long_form s words commands each)

    refused : (m : ℕ) → task_refusal m u ≡ task_refusal m t
    unfolding task_refusal word_rows
    refused m =
        λ i.
        let n = first_of (screen_rows m screen ++ rows i) in
        cond (not (eqb n 0)) (record { number = n; place = 0 })
        (cond (not (eqb (first m i).number 0)) (first m i)
        (record { number = first_of (row 16 (ltb (taken i) (length words)) ∷ []); place = 0 }))

    -- ---- compiling
    module _ (m : ℕ) where
      refusal : (room : ℕ) → refusal_of m u room ≡ refusal_of m t room
      unfolding refusal_of room_rows
      refusal room =
          λ i.
          cond (eqb (refused m i).number 0)
          (record { number = first_of (row 17 (ltb room (8 * length (records i))) ∷ []); place = 0 })
          (refused m i)

      answer_same : (room : ℕ) → compiling m u room ≡ compiling m t room
      unfolding compiling
      answer_same room = λ i. answered (refusal room i) s (8 * length (records i))

      buffer_same : (buffer : List ℕ) → buffer_after m u buffer ≡ buffer_after m t buffer
      unfolding buffer_after stream_of
      buffer_same buffer = λ i. buffer_with (answer_same (length buffer) i) (stream_bytes (records i)) buffer

      -- ---- drawing
      sheet_after_same : (memory : List ℕ) → sheet_after m u memory ≡ sheet_after m t memory
      unfolding sheet_after
      sheet_after_same memory =
          let drawn = ap (λ (bs : List (List ℕ)). sheet_commands s bs words memory) f.parts ∙ sheet_same long_form s words memory commands each in
          λ i. cond (eqb (refused m i).number 0) (drawn i) memory

      drawing_same : (room : ℕ) (memory : List ℕ) → drawing m u room memory ≡ drawing m t room memory
      unfolding drawing
      drawing_same room memory =
          λ i.
          let c = answer_same room i in
          cond (not (eqb (length memory) m)) (refused_by 18 0)
          (cond (eqb c.number 0)
          (record { number = 0; place = 0; length = c.length; values = values_of s })
          (refused_by c.number c.place))

      memory_same : (room : ℕ) (memory : List ℕ) → memory_drawn m u room memory ≡ memory_drawn m t room memory
      unfolding memory_drawn
      memory_same room memory = λ i. cond (eqb (drawing_same room memory i).number 0) (sheet_after_same memory i) memory

      stream_same : (buffer memory : List ℕ) → stream_drawn m u buffer memory ≡ stream_drawn m t buffer memory
      unfolding stream_drawn
      stream_same buffer memory = ap (λ (b : List ℕ). cond (eqb (length memory) m) b buffer) (buffer_same buffer)

    -- ---- the S1D13706
    lent : (room : ℕ) → lent_rows u room ≡ lent_rows t room
    unfolding lent_rows
    lent room =
        λ i.
        row 10 (not (list_same i))
        ∷ (row 11 (any_same i)
        ∷ (row 16 (ltb 0 (length words))
        ∷ (row 17 (ltb room (8 * length (older_records s)))
        ∷ [])))

    older_same : (room : ℕ) → older_compiling u room ≡ older_compiling t room
    unfolding older_compiling older_rows
    older_same room = λ i. answered (record { number = first_of (screen_rows older_memory screen ++ lent room i); place = 0 }) s (8 * length (older_records s))

    older_buffer_same : (buffer : List ℕ) → older_buffer u buffer ≡ older_buffer t buffer
    unfolding older_buffer
    older_buffer_same buffer = λ i. buffer_with (older_same (length buffer) i) (stream_bytes (older_records s)) buffer

  pub same_task : SameTask list long
  same_task =
      record {
        answer = λ screen words. answer_same screen words memory_size;
        stream = λ screen words. buffer_same screen words memory_size;
        part = λ screen words room. part_same (compiling memory_size (task short_form screen list words) room);
        older_answer = older_same;
        older_stream = older_buffer_same;
        drawn = λ screen words. drawing_same screen words memory_size;
        drawn_stream = λ screen words. stream_same screen words memory_size;
        drawn_memory = λ screen words. memory_same screen words memory_size;
      }

-- every such list that is turned long
forms_turned : (list target : List ℕ) → (turning short_form long_form list (length target)).number ≡ 0 → none_above (parts_of short_form list) ≡ true
    → Forms list (turned_given short_form long_form list target)
forms_turned list target e none =
    let a = accepted_says short_form long_form list (length target) e in
    subst (Forms list) (sym (given_is short_form long_form list target a))
    (record { low = none; listed = a.listed; listed_long = list_turned short_form long_form list a.listed refl; parts = parts_turned short_form long_form list refl refl })

pub turned_same : TurnedSame
turned_same list target e none = same_task list (turned_given short_form long_form list target) (forms_turned list target e none)
