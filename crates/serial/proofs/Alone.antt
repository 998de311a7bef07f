-- A block that is due words of one line alone: how it is found, and what it does to the player's numbers.
use Prim.Native.Nat.{ℕ, ◌+◌, ◌*◌, ◌/◌, ◌%◌, ◌<◌, ◌≤◌, min}
use mathlib.Core.Path.{◌≡◌, refl, sym, ap, ◌∙◌, subst}
use mathlib.Core.Bool.{true, false, not}
use mathlib.Core.List.{List, [], append-nil}
use mir.Val.{bool_byte}
use native.Mathlib.Omega.{arith}
use lib.Dec.{eqb, leb, ltb}
use lib.ListN.{length, replicate, drop_of_length-le}
use lib.Seq.{take_all}
use borrow.Author.Tests.{eq-eqb, ne_eqb, le-ltb, lt-ltb, le-leb, lt-leb, eqb-true, leb-true, ltb-true}
use Rattle.record.specs.Record.{records_from, records_of}
use Rattle.record.specs.declared.Record.{Record}
use Rattle.record.proofs.Choice.{and_go, and_stop, and_left, and_right}
use Rattle.record.proofs.Records.{length_records}
use Rattle.screen.proofs.Values.{six_back}
use Rattle.blit.specs.Words.{chip_words}
use Rattle.chip.specs.Start.{write_of}
use Rattle.chip.specs.Play.{run, applied}
use Rattle.chip.specs.Words.{words_ahead, OnlyWords, values_of, due_in_line, due_after_words, chip_after_words}
use Rattle.chip.specs.declared.Chip.{Chip}
use Rattle.chip.specs.declared.Due.{Due}
use Rattle.chip.proofs.Dues.{due_at, line_in_all}
use Rattle.chip.proofs.Runs.{reached, run_end, applied_end}
use Rattle.chip.proofs.Words.{ahead, admitting, applying}
use Rattle.serial.specs.State.{most_records, held_by, chip_of, state_of, player_of}
use Rattle.serial.specs.Serial.{Stage, bytes_taken}
use Rattle.serial.specs.Taking.{stage_of, records_taken, words_alone}
use Rattle.serial.specs.declared.Player.{Player}
use Rattle.serial.specs.declared.Taking.{Taking}
use Rattle.serial.proofs.Bytes.{halfway, left_over}
use Rattle.serial.proofs.Follows.{up_to, passes}
use Rattle.serial.proofs.Rest.{rest_left, none_held}
use Rattle.serial.proofs.Ways.{flag}

-- ---- how it is found: one test after another

module _ (p : Player) (block : List ℕ) where
  abbrev n : ℕ
  n = length block / 8

  -- the due word of a line
  abbrev from : Due
  from = due_at p.line p.word

  pub not_half_read : (p.held ≡ 0 → ⊥) → false ≡ words_alone p block
  unfolding words_alone
  not_half_read h = and_stop _ (ne_eqb (held_by p) 0 (λ e. h (omega (arith, e))))

  module _ (none : p.held ≡ 0) where
    empty : eqb (held_by p) 0 ≡ true
    empty = eq-eqb (held_by p) 0 (omega (arith, none))

    pub not_due : p.due ≡ 0 → false ≡ words_alone p block
    unfolding words_alone chip_of
    not_due e = and_go empty (and_stop _ (ap not (eq-eqb p.due 0 e)))

    module _ (due : p.due ≡ 0 → ⊥) where
      any : not (eqb p.due 0) ≡ true
      any = ap not (ne_eqb p.due 0 due)

      pub not_whole : (length block % 8 ≡ 0 → ⊥) → false ≡ words_alone p block
      unfolding words_alone chip_of
      not_whole h = and_go empty (and_go any (and_stop _ (ne_eqb (length block % 8) 0 h)))

      module _ (whole : length block % 8 ≡ 0) where
        full : eqb (length block % 8) 0 ≡ true
        full = eq-eqb (length block % 8) 0 whole

        pub not_some : n ≡ 0 → false ≡ words_alone p block
        unfolding words_alone chip_of
        not_some e = and_go empty (and_go any (and_go full (and_stop _ (le-ltb 0 n (omega (arith, e))))))

        module _ (some : n ≡ 0 → ⊥) where
          one : ltb 0 n ≡ true
          one = lt-ltb 0 n (omega (arith, some))

          pub not_one_line : due_in_line p.blit from < n → false ≡ words_alone p block
          unfolding words_alone chip_of due_in_line
          not_one_line h = and_go empty (and_go any (and_go full (and_go one (and_stop _ (lt-leb n (due_in_line p.blit from) h)))))

          pub by_words : n ≤ due_in_line p.blit from → (k : ℕ) → k ≡ words_ahead (records_from block 0 n) → eqb k n ≡ words_alone p block
          unfolding words_alone chip_of due_in_line records_of
          by_words h k e = and_go empty (and_go any (and_go full (and_go one (and_go (le-leb n (due_in_line p.blit from) h) (ap (λ (x : ℕ). eqb x n) e)))))

-- ---- what it says

pub record Alone (p : Player) (block : List ℕ) : Type 0 where
  pub none : held_by p ≡ 0
  pub due : not (eqb p.due 0) ≡ true
  pub whole : length block % 8 ≡ 0
  pub some : 0 < length block / 8
  pub line : length block / 8 ≤ due_in_line p.blit (due_at p.line p.word)
  pub only : OnlyWords (records_of block)

only_words : (rs : List Record) (n : ℕ) → length rs ≡ n → words_ahead rs ≡ n → OnlyWords rs
only_words rs n l e = subst OnlyWords (take_all (words_ahead rs) rs (omega (arith, l, e))) (ahead rs).only

pub alone : (p : Player) (block : List ℕ) → words_alone p block ≡ true → Alone p block
unfolding words_alone chip_of due_in_line
alone p block e =
    let n = length block / 8 in
    let l = due_in_line p.blit (due_at p.line p.word) in
    let k = eqb (words_ahead (records_of block)) n in
    let a₁ = and_right (eqb (held_by p) 0) _ e in
    let a₂ = and_right (not (eqb p.due 0)) _ a₁ in
    let a₃ = and_right (eqb (length block % 8) 0) _ a₂ in
    let a₄ = and_right (ltb 0 n) _ a₃ in
    record {
      none = eqb-true (held_by p) 0 (and_left (eqb (held_by p) 0) _ e);
      due = and_left (not (eqb p.due 0)) _ a₁;
      whole = eqb-true (length block % 8) 0 (and_left (eqb (length block % 8) 0) _ a₂);
      some = ltb-true 0 n (and_left (ltb 0 n) _ a₃);
      line = leb-true n l (and_left (leb n l) k a₄);
      only = only_words (records_of block) n (length_records block) (eqb-true (words_ahead (records_of block)) n (and_right (leb n l) k a₄));
    }

-- ---- what it does

module _ (m : ℕ) (p : Player) (old block : List ℕ) (w : Alone p block) where
  abbrev words : ℕ
  words = length block / 8

  abbrev first : Due
  first = due_at p.line p.word

  -- the chip, in the player's numbers
  abbrev chip : Chip
  chip = record { screen = (chip_of p).screen; blit = p.blit; due = first }

  chip_is : chip ≡ chip_of p
  unfolding chip_of
  chip_is = λ t. record { screen = (chip_of p).screen; blit = p.blit; due = record { any = sym w.due t; line = p.line; word = p.word } }

  abbrev drawn : List ℕ
  drawn = chip_words (write_of p.blit (λ i j. 0)) p.line p.word (values_of (records_from block 0 words)) old

  ran : reached (chip_after_words chip words) ≡ run m chip 0 (records_of block)
  ran =
      let l = length_records block in
      sym (ap (run m chip 0) (sym (append-nil (records_of block)))
      ∙ admitting m chip 0 (records_of block) [] refl w.only (omega (arith, l, w.line, line_in_all p.blit first))
      ∙ run_end m _ _
      ∙ (λ t. reached (chip_after_words chip (l t))))

  did : drawn ≡ applied chip (records_from block 0 words) old
  unfolding records_of
  did =
      let l = length_records block in
      sym (ap (λ (rs : List Record). applied chip rs old) (sym (append-nil (records_of block)))
      ∙ applying chip (records_of block) [] old w.only (omega (arith, l, w.line))
      ∙ applied_end _ _)

  nothing_left : left_over block ≡ []
  nothing_left = drop_of_length-le block {i = length block / 8 * 8} (omega (arith, w.whole))

  module _ (most : p.count ≤ most_records) where
    -- the stage after the block
    abbrev stage : Stage
    stage = halfway (chip_after_words chip words) (up_to (p.count + words)) [] drawn

    all_taken : stage ≡ bytes_taken m (record { state = state_of p; memory = old }) block
    all_taken =
        let start : Taking = record { chip = chip; count = p.count; number = 0 } in
        let t : Taking = record { chip = chip_after_words chip words; count = up_to (p.count + words); number = 0 } in
        let taken : stage_of t drawn ≡ records_taken m (stage_of start old) (records_of block) =
        passes m chip block (reached (chip_after_words chip words)) words ran refl p.count _ old drawn most refl did in
        ap (λ (h : List ℕ). halfway (chip_after_words chip words) (up_to (p.count + words)) h drawn) (sym nothing_left)
        ∙ rest_left m start t old drawn block refl taken refl
        ∙ none_held m p old block chip chip_is (held_by p) refl w.none

    -- the player and the memory after it
    pub words_taken_lem : length p.values ≡ 6 → (d : Due) (count : ℕ) (new : List ℕ) → d ≡ due_after_words p.blit words first → count ≡ min (p.count + words) most_records → new ≡ drawn
        → (◌≡◌ {A = Player}
        (record {
          values = p.values;
          blit = p.blit;
          due = bool_byte d.any;
          line = d.line;
          word = d.word;
          half = replicate 7 0;
          held = 0;
          count = count;
          kept = 0;
          number = 0;
          place = 0;
        })
        (player_of (bytes_taken m (record { state = state_of p; memory = old }) block).state))
        × (new ≡ (bytes_taken m (record { state = state_of p; memory = old }) block).memory)
    unfolding player_of chip_of
    words_taken_lem six d count new due counted same = (
      (λ t. record {
        values = sym (six_back p.values six) t;
        blit = p.blit;
        due = flag d.any t;
        line = d.line;
        word = d.word;
        half = replicate 7 0;
        held = 0;
        count = counted t;
        kept = 0;
        number = 0;
        place = 0;
      })
          ∙ (λ t. player_of (record { chip = record { screen = chip.screen; blit = p.blit; due = due t }; half = []; count = up_to (p.count + words); number = 0 }))
          ∙ ap (λ (g : Stage). player_of g.state) all_taken,
      same ∙ ap (λ (g : Stage). g.memory) all_taken,
    )
