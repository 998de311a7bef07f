-- The law: what an admitted stream does to the memory is what its starts and their data words do.
use Prim.Native.Nat.{ℕ, ◌/◌, ◌%◌, ◌<◌}
use mathlib.Core.Path.{◌≡◌, refl, sym, ap, ◌∙◌}
use mathlib.Core.List.{List, [], ◌∷◌}
use mathlib.Core.Bool.{Bool, true, false, not, cond, true≢false}
use lib.Dec.{eqb, lit<}
use lib.ListN.{length}
use native.Mathlib.Omega.{arith}
use borrow.Author.Tests.{eqb-true, eq-eqb}
use Rattle.record.specs.Record.{records_of}
use Rattle.record.specs.declared.Record.{Record}
use Rattle.blit.specs.Words.{chip_word}
use Rattle.chip.specs.Register.{blit_after}
use Rattle.chip.specs.Start.{operation, write_of, started}
use Rattle.chip.specs.Admit.{is_data, starts, written, due_after, due_of, chip_after, effect}
use Rattle.chip.specs.Play.{new_chip, run, applied, Playing, playing, played}
use Rattle.chip.specs.declared.Registers.{Registers}
use Rattle.chip.specs.declared.Due.{Due}
use Rattle.chip.specs.declared.Chip.{Chip}
use Rattle.chip.proofs.Admits.{admits, data_after, word_effect, start_effect, no_effect}
use Rattle.chip.proofs.Runs.{Admitted, all_admitted, applied_end, applied_step}
use Rattle.command.proofs.Operation.{is_or_not}
use Rattle.chip.proofs.Plays.{new_idle}
use Rattle.chip.proofs.Answers.{other_size, broken, whole, end_refused}
use Rattle.starts.specs.Starts.{used_of, Start, words_behind, starts_from, starts_in}
use Rattle.starts.specs.Law.{ByStartsAlone}
use Rattle.starts.proofs.Used.{same_started, same_write, same_due}

-- ---- what data words and starts do

-- data words of a write with these registers, from the due one on
unfoldable pub words_drawn : Registers → Due → List ℕ → List ℕ → List ℕ
words_drawn b d [] old = old
words_drawn b d (w ∷ ws) old = words_drawn b (due_after b d) ws (chip_word (write_of b (λ i j. 0)) d.line d.word w old)

-- the first word of the first line
abbrev first : Bool → Due
first t = record { any = t; line = 0; word = 0 }

unfoldable pub drawn : List Start → List ℕ → List ℕ
drawn [] old = old
drawn (x ∷ xs) old = drawn xs (words_drawn x.registers (first true) x.words (started x.registers old))

-- whether a word is due does not matter for where it goes
words_first : (t : Bool) (b : Registers) (ws old : List ℕ) → words_drawn b (first t) ws old ≡ words_drawn b (first true) ws old
unfolding words_drawn due_after
words_first t b [] old = refl
words_first t b (w ∷ ws) old = refl

-- the registers that the write uses are enough
words_used : (b : Registers) (d : Due) (ws old : List ℕ) → words_drawn (used_of b) d ws old ≡ words_drawn b d ws old
unfolding words_drawn
words_used b d [] old = refl
words_used b d (w ∷ ws) old =
    words_used b (due_after (used_of b) d) ws (chip_word (write_of (used_of b) (λ i j. 0)) d.line d.word w old)
    ∙ (λ t. words_drawn b (same_due b d t) ws (chip_word (same_write b (λ i j. 0) t) d.line d.word w old))

-- ---- record by record

-- data, a start, or neither
by_kind : {P : Type 0} (r : Record) → (is_data r ≡ true → starts r ≡ false → P) → (is_data r ≡ false → starts r ≡ true → P) → (is_data r ≡ false → starts r ≡ false → P) → P
by_kind {P} r word start other = chosen (is_data r) (starts r) refl refl
  where
    not_both : is_data r ≡ true → starts r ≡ false
    not_both e = rw (eqb-true r.number 0x10000 e) refl

    chosen : (d s : Bool) → is_data r ≡ d → starts r ≡ s → P
    chosen true s e f = word e (not_both e)
    chosen false true e f = start e f
    chosen false false e f = other e f

pub words_end : words_behind [] ≡ []
unfolding words_behind
words_end = refl

module _ (r : Record) (rs : List Record) where
  pub words_word : is_data r ≡ true → words_behind (r ∷ rs) ≡ r.value ∷ words_behind rs
  unfolding words_behind
  words_word e = rw e

  pub words_start : is_data r ≡ false → starts r ≡ true → words_behind (r ∷ rs) ≡ []
  unfolding words_behind
  words_start e f = rw (e, f)

  pub words_other : is_data r ≡ false → starts r ≡ false → words_behind (r ∷ rs) ≡ words_behind rs
  unfolding words_behind
  words_other e f = rw (e, f)

  pub starts_one : (b : Registers) → starts r ≡ true
      → starts_from b (r ∷ rs) ≡ record { registers = used_of (blit_after b r.number r.value); words = words_behind rs } ∷ starts_from (blit_after b r.number r.value) rs
  unfolding starts_from
  starts_one b f = rw f

  pub starts_none : (b : Registers) → starts r ≡ false → starts_from b (r ∷ rs) ≡ starts_from (blit_after b r.number r.value) rs
  unfolding starts_from
  starts_none b f = rw f

-- ---- the chip after a record
module _ (c : Chip) (r : Record) where
  pub blit_after_lem : (chip_after c r).blit ≡ written c r
  unfolding chip_after
  blit_after_lem = refl

  pub due_start : is_data r ≡ false → starts r ≡ true → (chip_after c r).due ≡ first (eqb (operation (written c r)) 0)
  unfolding chip_after due_of
  due_start e f = rw (e, f) refl

  -- a register write that starts nothing leaves a chip that waits for no data
  pub idle_after : is_data r ≡ false → starts r ≡ false → (chip_after c r).due.any ≡ false
  unfolding chip_after due_of
  idle_after e f = rw (e, f) refl

-- a chip that waits for no data takes none before the next start
no_words : (m : ℕ) (c : Chip) (rs : List Record) → Admitted m c rs → c.due.any ≡ false → words_behind rs ≡ []
unfolding Admitted
no_words m c [] a idle = words_end
no_words m c (r ∷ rs) a idle =
    by_kind r
    (λ e f. absurd (refused (admits m c r a.0).order e))
    (λ e f. words_start r rs e f)
    (λ e f. words_other r rs e f ∙ no_words m (chip_after c r) rs a.1 (idle_after c r e f))
  where
    refused : cond (is_data r) (not c.due.any) c.due.any ≡ false → is_data r ≡ true → ⊥
    refused q e = true≢false (sym (rw (e, idle) refl) ∙ q)

-- what is drawn from a chip on: the words that it waits for, then the starts
abbrev all_drawn : Chip → List Record → List ℕ → List ℕ
all_drawn c rs old = drawn (starts_from c.blit rs) (words_drawn c.blit c.due (words_behind rs) old)

module _ (c : Chip) (r : Record) (rs : List Record) (old : List ℕ) where
  abbrev next : Chip
  next = chip_after c r

  word_next : is_data r ≡ true → starts r ≡ false → all_drawn next rs (effect c r old) ≡ all_drawn c (r ∷ rs) old
  unfolding words_drawn
  word_next e f =
      let k = sym (data_after c r (eqb-true r.number 0x10000 e)) in
      let w = sym (word_effect c r old _ e refl) in
      (λ t. drawn (starts_from (blit_after_lem c r t) rs) (words_drawn (k t).blit (k t).due (words_behind rs) (w t)))
      ∙ sym (λ t. drawn (starts_none r rs c.blit f t) (words_drawn c.blit c.due (words_word r rs e t) old))

  start_next : is_data r ≡ false → starts r ≡ true → all_drawn next rs (effect c r old) ≡ all_drawn c (r ∷ rs) old
  unfolding words_drawn drawn
  start_next e f =
      let b = written c r in
      let w = sym (start_effect c r old _ e f refl) in
      (λ t. drawn (starts_from (blit_after_lem c r t) rs) (words_drawn (blit_after_lem c r t) (due_start c r e f t) (words_behind rs) (w t)))
      ∙ ap (drawn (starts_from b rs))
      (words_first (eqb (operation b) 0) b (words_behind rs) (started b old)
      ∙ sym (words_used b (first true) (words_behind rs) (started b old))
      ∙ ap (words_drawn (used_of b) (first true) (words_behind rs)) (sym (same_started b old)))
      ∙ sym (λ t. drawn (starts_one r rs c.blit f t) (words_drawn c.blit c.due (words_start r rs e f t) old))

  other_next : is_data r ≡ false → starts r ≡ false → words_behind rs ≡ [] → all_drawn next rs (effect c r old) ≡ all_drawn c (r ∷ rs) old
  unfolding words_drawn
  other_next e f none =
      let w = sym (no_effect c r old old e f refl) in
      (λ t. drawn (starts_from (blit_after_lem c r t) rs) (words_drawn next.blit next.due (none t) (w t)))
      ∙ sym (λ t. drawn (starts_none r rs c.blit f t) (words_drawn c.blit c.due ((words_other r rs e f ∙ none) t) old))

nothing_drawn : (c : Chip) (old : List ℕ) → old ≡ all_drawn c [] old
unfolding starts_from words_behind words_drawn drawn
nothing_drawn c old = refl

pub applied_is : (m : ℕ) (c : Chip) (rs : List Record) (old : List ℕ) → Admitted m c rs → applied c rs old ≡ all_drawn c rs old
unfolding Admitted
applied_is m c [] old a = applied_end c old ∙ nothing_drawn c old
applied_is m c (r ∷ rs) old a =
    applied_step c r rs old ∙ applied_is m (chip_after c r) rs (effect c r old) a.1
    ∙ by_kind r (word_next c r rs old) (start_next c r rs old)
    (λ e f. other_next c r rs old e f (no_words m (chip_after c r) rs a.1 (idle_after c r e f)))

-- ---- accepted streams
-- an accepted stream is whole records that are admitted, over a memory of the right size
pub accepted_admitted : (m : ℕ) (stream memory : List ℕ) → (playing m stream memory).number ≡ 0 → Admitted m new_chip (records_of stream)
accepted_admitted m stream memory e =
    all_admitted m new_chip 0 (records_of stream)
    (is_or_not (length memory) m
    (λ h. is_or_not (length stream % 8) 0
    (λ g. is_or_not (run m new_chip 0 (records_of stream)).number 0
    (λ z. z)
    (λ z. absurd (z (sym (ap (λ (x : Playing). x.number) (whole m stream memory h g _ refl ∙ end_refused _ (length stream / 8) z)) ∙ e))))
    (λ g. absurd (not_zero 19 (lit< tt) (sym (ap (λ (x : Playing). x.number) (broken m stream memory h g)) ∙ e))))
    (λ h. absurd (not_zero 18 (lit< tt) (sym (ap (λ (x : Playing). x.number) (other_size m stream memory h)) ∙ e))))
  where
    not_zero : (n : ℕ) → 0 < n → n ≡ 0 → ⊥
    not_zero n h e = omega arith

none_drawn : (b : Registers) (d : Due) (old : List ℕ) → words_drawn b d [] old ≡ old
unfolding words_drawn
none_drawn b d old = refl

accepted_played : (m : ℕ) (stream memory : List ℕ) → (playing m stream memory).number ≡ 0 → played m stream memory ≡ drawn (starts_in (records_of stream)) memory
unfolding played
accepted_played m stream memory e =
    rw (eq-eqb (playing m stream memory).number 0 e)
    (applied_is m new_chip (records_of stream) memory (accepted_admitted m stream memory e)
    ∙ ap (λ (ws : List ℕ). drawn (starts_in (records_of stream)) (words_drawn new_chip.blit new_chip.due ws memory)) (no_words m new_chip (records_of stream) (accepted_admitted m stream memory e) new_idle)
    ∙ ap (drawn (starts_in (records_of stream))) (none_drawn new_chip.blit new_chip.due memory))

pub by_starts_alone : ByStartsAlone
by_starts_alone m one other memory e f same =
    accepted_played m one memory e ∙ ap (λ (xs : List Start). drawn xs memory) same ∙ sym (accepted_played m other memory f)
