-- The parts of a stream: register writes that start nothing, and data words.
use Prim.Native.Nat.{ℕ}
use mathlib.Core.Path.{◌≡◌, refl, sym, ap, ◌∙◌}
use mathlib.Core.List.{List, [], ◌∷◌, ◌++◌}
use mathlib.Core.Bool.{true, false, not, cond, true≢false}
use Rattle.record.specs.Record.{record_with}
use Rattle.record.specs.declared.Record.{Record}
use Rattle.screen.specs.declared.ScreenValues.{ScreenValues}
use Rattle.chip.specs.Register.{fits, screen_after, blit_after}
use Rattle.chip.specs.Admit.{is_data, starts, refusal, due_after, chip_after}
use Rattle.chip.specs.declared.Registers.{Registers}
use Rattle.chip.specs.declared.Due.{Due}
use Rattle.chip.specs.declared.Chip.{Chip}
use Rattle.chip.proofs.Admits.{admits, admits_back, field_listed, data_after}
use Rattle.chip.proofs.Commands.{word_writes}
use Rattle.chip.proofs.Runs.{Admitted}
use Rattle.starts.specs.Starts.{used_of, words_behind, starts_from}
use Rattle.starts.proofs.Used.{same_due}
use Rattle.starts.proofs.Law.{words_word, words_other, starts_none, idle_after}
use Rattle.starts.proofs.After.{after_all}

-- ---- register writes that start nothing

-- one that leaves the screen registers, its value being in its field
pub record Quiet (r : Record) : Type 0 where
  pub word : is_data r ≡ false
  pub start : starts r ≡ false
  pub screen : (s : ScreenValues) → screen_after s r.number r.value ≡ s
  pub field : fits r.number r.value ≡ true

unfoldable pub AllQuiet : List Record → Type 0
AllQuiet [] = Unit {0}
AllQuiet (r ∷ rs) = Quiet r × AllQuiet rs

-- the blit registers after records
unfoldable pub blit_by : Registers → List Record → Registers
blit_by b [] = b
blit_by b (r ∷ rs) = blit_by (blit_after b r.number r.value) rs

pub quiet_words : (xs ys : List Record) → AllQuiet xs → words_behind (xs ++ ys) ≡ words_behind ys
unfolding AllQuiet
quiet_words [] ys q = refl
quiet_words (r ∷ xs) ys q = words_other r (xs ++ ys) q.0.word q.0.start ∙ quiet_words xs ys q.1

pub quiet_starts : (b : Registers) (xs ys : List Record) → AllQuiet xs → starts_from b (xs ++ ys) ≡ starts_from (blit_by b xs) ys
unfolding AllQuiet blit_by
quiet_starts b [] ys q = refl
quiet_starts b (r ∷ xs) ys q = starts_none r (xs ++ ys) b q.0.start ∙ quiet_starts (blit_after b r.number r.value) xs ys q.1

-- where such writes lead a chip that waits for no data
pub record Led (m : ℕ) (c : Chip) (xs : List Record) : Type 0 where
  pub admitted : Admitted m c xs
  pub screen : (after_all c xs).screen ≡ c.screen
  pub blit : (after_all c xs).blit ≡ blit_by c.blit xs
  pub idle : (after_all c xs).due.any ≡ false

module _ (m : ℕ) where
  quiet_taken : (c : Chip) (r : Record) → Quiet r → c.due.any ≡ false → refusal m c r ≡ 0
  quiet_taken c r q idle =
      admits_back m c r
      (record {
        listed = field_listed r.number r.value q.field;
        field = q.field;
        startable = λ h. absurd (true≢false (sym h ∙ q.start));
        within = λ h. absurd (true≢false (sym h ∙ q.start));
        order = rw q.word idle;
      })

  screen_after_lem : (c : Chip) (r : Record) → Quiet r → (chip_after c r).screen ≡ c.screen
  unfolding chip_after
  screen_after_lem c r q = q.screen c.screen

  blit_step : (c : Chip) (r : Record) → (chip_after c r).blit ≡ blit_after c.blit r.number r.value
  unfolding chip_after
  blit_step c r = refl

  pub quiet_led : (c : Chip) (xs : List Record) → AllQuiet xs → c.due.any ≡ false → Led m c xs
  unfolding AllQuiet Admitted after_all blit_by
  quiet_led c [] q idle = record { admitted = tt; screen = refl; blit = refl; idle = idle }
  quiet_led c (r ∷ xs) q idle =
      let l = quiet_led (chip_after c r) xs q.1 (idle_after c r q.0.word q.0.start) in
      record {
        admitted = (quiet_taken c r q.0 idle, l.admitted);
        screen = l.screen ∙ screen_after_lem c r q.0;
        blit = l.blit ∙ ap (λ (b : Registers). blit_by b xs) (blit_step c r);
        idle = l.idle;
      }

-- ---- data words

pub word_kept : (b : Registers) (w : ℕ) → blit_after b 0x10000 w ≡ b
unfolding blit_after
word_kept b w = refl

pub word_words : (ws : List ℕ) (ys : List Record) → words_behind (word_writes ws ++ ys) ≡ ws ++ words_behind ys
unfolding word_writes
word_words [] ys = refl
word_words (w ∷ ws) ys = words_word (record_with 0x10000 w) (word_writes ws ++ ys) refl ∙ ap (λ (l : List ℕ). w ∷ l) (word_words ws ys)

pub word_starts : (b : Registers) (ws : List ℕ) (ys : List Record) → starts_from b (word_writes ws ++ ys) ≡ starts_from b ys
unfolding word_writes
word_starts b [] ys = refl
word_starts b (w ∷ ws) ys =
    starts_none (record_with 0x10000 w) (word_writes ws ++ ys) b refl
    ∙ ap (λ (x : Registers). starts_from x (word_writes ws ++ ys)) (word_kept b w) ∙ word_starts b ws ys

-- two chips that differ in no register that the started operation uses
pub record Twins (c d : Chip) : Type 0 where
  pub screen : d.screen ≡ c.screen
  pub due : d.due ≡ c.due
  pub used : used_of d.blit ≡ used_of c.blit

-- words that the one takes the other takes, and they stay so
pub record Follows (m : ℕ) (c d : Chip) (ws : List ℕ) : Type 0 where
  pub admitted : Admitted m d (word_writes ws)
  pub twins : Twins (after_all c (word_writes ws)) (after_all d (word_writes ws))
  pub blit : (after_all d (word_writes ws)).blit ≡ d.blit

module _ (m : ℕ) where
  word_taken : (c d : Chip) (r : Record) → is_data r ≡ true → starts r ≡ false → d.due ≡ c.due → refusal m c r ≡ 0 → refusal m d r ≡ 0
  word_taken c d r e f t a =
      let p = admits m c r a in
      admits_back m d r
      (record {
        listed = p.listed;
        field = p.field;
        startable = λ h. absurd (true≢false (sym h ∙ f));
        within = λ h. absurd (true≢false (sym h ∙ f));
        order = ap (λ (x : Due). cond (is_data r) (not x.any) x.any) t ∙ p.order;
      })

  word_twins : (c d : Chip) (r : Record) → r.number ≡ 0x10000 → Twins c d → Twins (chip_after c r) (chip_after d r)
  word_twins c d r e t =
      let p = data_after c r e in
      let q = data_after d r e in
      record {
        screen = ap (λ (x : Chip). x.screen) (sym q) ∙ t.screen ∙ ap (λ (x : Chip). x.screen) p;
        due =
            ap (λ (x : Chip). x.due) (sym q)
            ∙ sym (same_due d.blit d.due) ∙ (λ i. due_after (t.used i) (t.due i)) ∙ same_due c.blit c.due
            ∙ ap (λ (x : Chip). x.due) p;
        used = ap (λ (x : Chip). used_of x.blit) (sym q) ∙ t.used ∙ ap (λ (x : Chip). used_of x.blit) p;
      }

  pub words_follow : (c d : Chip) (ws : List ℕ) → Twins c d → Admitted m c (word_writes ws) → Follows m c d ws
  unfolding word_writes Admitted after_all
  words_follow c d [] t a = record { admitted = tt; twins = t; blit = refl }
  words_follow c d (w ∷ ws) t a =
      let r = record_with 0x10000 w in
      let f = words_follow (chip_after c r) (chip_after d r) ws (word_twins c d r refl t) a.1 in
      record {
        admitted = (word_taken c d r refl refl t.due a.0, f.admitted);
        twins = f.twins;
        blit = f.blit ∙ ap (λ (x : Chip). x.blit) (sym (data_after d r refl));
      }
