-- Data words that are taken at once are admitted and applied as one by one.
use Prim.Native.Nat.{ℕ, zero, suc, ◌+◌, ◌-◌, ◌%◌, ◌≤◌, ◌<◌, min}
use mathlib.Core.Path.{◌≡◌, refl, sym, ap, ◌∙◌, subst}
use mathlib.Core.List.{List, [], ◌∷◌, ◌++◌}
use mathlib.Core.Bool.{Bool, true, false, ◌&&◌, cond}
use native.Mathlib.Nat.{add-zero, zero-add}
use native.Mathlib.Numerals.{add-one}
use native.Mathlib.Omega.{arith}
use lib.Dec.{eqb, leb}
use lib.ListN.{length, take}
use borrow.Author.Tests.{eqb-true}
use Rattle.record.specs.Record.{record_at, records_from}
use Rattle.record.specs.declared.Record.{Record}
use Rattle.record.proofs.Choice.{and_left, and_right}
use Rattle.record.proofs.Records.{records_step_lem, records_end, records_run, records_take, length_from}
use Rattle.blit.specs.Blit.{Blit}
use Rattle.blit.specs.Words.{chip_word, chip_words}
use Rattle.chip.specs.Register.{listed, fits}
use Rattle.chip.specs.Start.{write_of}
use Rattle.chip.specs.Admit.{is_data, starts, refusal, due_after, effect}
use Rattle.chip.specs.Play.{run, applied}
use Rattle.chip.specs.Words.{is_word, words_ahead, OnlyWords, values_of, due_in_line, due_in_all, due_after_words, chip_after_words, words_taken, Admitting, AdmittingNoOther, Applying}
use Rattle.chip.specs.declared.Due.{Due}
use Rattle.chip.specs.declared.Chip.{Chip}
use Rattle.chip.proofs.Admits.{is_true, admits, admits_back, data_after, word_effect}
use Rattle.chip.proofs.Runs.{run_taken, applied_step, admitted}
use Rattle.chip.proofs.Dues.{same_line, line_goes_on, one_less_in_line, line_in_all, more_due, some_due}

-- ---- one word

is_data_lem : (r : Record) → is_word r ≡ true → r.number ≡ 0x10000
is_data_lem r e = eqb-true r.number 0x10000 (and_left (is_data r) (fits r.number r.value) e)

-- its number and its field
word_by : (r : Record) (t : Bool) → eqb r.number 0x10000 ≡ t → (eqb r.number 0x10000 && leb r.value 0xFFFF) ≡ is_word r
unfolding fits
word_by r true e = let n = eqb-true r.number 0x10000 e in rw n
word_by r false e = rw e

pub word_fields : (r : Record) → (eqb r.number 0x10000 && leb r.value 0xFFFF) ≡ is_word r
word_fields r = word_by r (eqb r.number 0x10000) refl

-- the chip after a data word
abbrev after_word : Chip → Chip
after_word c = record { screen = c.screen; blit = c.blit; due = due_after c.blit c.due }

no_start : (r : Record) → r.number ≡ 0x10000 → starts r ≡ true → ⊥
no_start r n s = omega (arith, n, eqb-true r.number 0x8000 (and_left (eqb r.number 0x8000) (eqb (r.value % 2) 1) s))

pub word_admitted : (m : ℕ) (c : Chip) (r : Record) → c.due.any ≡ true → is_word r ≡ true → refusal m c r ≡ 0
unfolding listed
word_admitted m c r due e =
    let n = is_data_lem r e in
    admits_back m c r (
    record {
      listed = rw n;
      field = and_right (is_data r) (fits r.number r.value) e;
      startable = λ s. absurd (no_start r n s);
      within = λ s. absurd (no_start r n s);
      order = rw (n, due);
    })

-- what is admitted while data is due is a data word
data_only : (t : Bool) → cond t false true ≡ false → t ≡ true
data_only true e = refl
data_only false e = sym e

pub admitted_word : (m : ℕ) (c : Chip) (r : Record) → c.due.any ≡ true → refusal m c r ≡ 0 → is_word r ≡ true
admitted_word m c r due e =
    let a = admits m c r e in
    let order = a.order in
    let d : is_data r ≡ true = data_only (is_data r) (rw due at order) in
    λ t. d t && a.field t

-- and where a data word is admitted, data is due
pub admitted_data : (m : ℕ) (c : Chip) (r : Record) → is_data r ≡ true → refusal m c r ≡ 0 → c.due.any ≡ true
admitted_data m c r d e =
    let order = (admits m c r e).order in
    is_true c.due.any (rw d at order)

-- ---- a run

pub admitting : Admitting
unfolding OnlyWords due_after_words
admitting m c i [] rest due ok few = ap (λ (k : ℕ). run m c k rest) (sym (add-zero i))
admitting m c i (r ∷ []) rest due ok few =
    run_taken m c i r rest (word_admitted m c r due ok.0)
    ∙ (λ t. run m (sym (data_after c r (is_data_lem r ok.0)) t) (sym (add-one i) t) rest)
admitting m c i (r ∷ (s ∷ ws)) rest due ok few =
    let more = more_due c.blit c.due (omega (arith, few)) in
    run_taken m c i r (s ∷ (ws ++ rest)) (word_admitted m c r due ok.0)
    ∙ ap (λ (x : Chip). run m x (suc i) (s ∷ (ws ++ rest))) (sym (data_after c r (is_data_lem r ok.0)))
    ∙ admitting m (after_word c) (suc i) (s ∷ ws) rest more.any ok.1 (omega (arith, few, more.left))
    ∙ ap (λ (k : ℕ). run m (chip_after_words c (suc (suc (length ws)))) k rest) (omega arith)

pub admitting_no_other : AdmittingNoOther
unfolding OnlyWords
admitting_no_other m c i [] rest due few e = tt
admitting_no_other m c i (r ∷ []) rest due few e = (admitted_word m c r due (admitted m c i r rest e).0, tt)
admitting_no_other m c i (r ∷ (s ∷ ws)) rest due few e =
    let a = admitted m c i r (s ∷ (ws ++ rest)) e in
    let w = admitted_word m c r due a.0 in
    let more = more_due c.blit c.due (omega (arith, few)) in (
      w,
      admitting_no_other m (after_word c) (suc i) (s ∷ ws) rest more.any (omega (arith, few, more.left))
          (ap (λ (x : Chip). (run m x (suc i) (s ∷ (ws ++ rest))).number) (data_after c r (is_data_lem r w)) ∙ a.1),
    )

-- a data word goes into the due word's line
drawn : (c : Chip) (r : Record) (old : List ℕ) → is_word r ≡ true
    → effect c r old ≡ chip_word (write_of c.blit (λ i j. 0)) c.due.line c.due.word r.value old
drawn c r old e = sym (word_effect c r old _ (and_left (is_data r) (fits r.number r.value) e) refl)

pub applying : Applying
unfolding OnlyWords values_of due_after_words chip_words
applying c [] rest old ok few = refl
applying c (r ∷ []) rest old ok few =
    applied_step c r rest old ∙ (λ t. applied (sym (data_after c r (is_data_lem r ok.0)) t) rest (drawn c r old ok.0 t))
applying c (r ∷ (s ∷ ws)) rest old ok few =
    let b = c.blit in
    let d = c.due in
    let blank : Blit = write_of b (λ i j. 0) in
    let on = line_goes_on b d (omega (arith, few)) in
    let e = same_line b d on in
    let new : List ℕ = chip_word blank d.line d.word r.value old in
    applied_step c r (s ∷ (ws ++ rest)) old
    ∙ (λ t. applied (sym (data_after c r (is_data_lem r ok.0)) t) (s ∷ (ws ++ rest)) (drawn c r old ok.0 t))
    ∙ applying (after_word c) (s ∷ ws) rest new ok.1 (omega (arith, few, one_less_in_line b d on, ap (due_in_line b) e))
    ∙ ap (λ (x : Due). applied (chip_after_words c (suc (suc (length ws)))) rest (chip_words blank x.line x.word (values_of (s ∷ ws)) new)) e
    ∙ ap (λ (k : ℕ). applied (chip_after_words c (suc (suc (length ws)))) rest (chip_words blank d.line k (values_of (s ∷ ws)) new)) (add-one d.word)

-- ---- words at the front of records

pub ahead_more : (r : Record) (rs : List Record) → is_word r ≡ true → words_ahead (r ∷ rs) ≡ suc (words_ahead rs)
unfolding words_ahead
ahead_more r rs e = rw e

pub ahead_stop : (r : Record) (rs : List Record) → is_word r ≡ false → words_ahead (r ∷ rs) ≡ 0
unfolding words_ahead
ahead_stop r rs e = rw e

-- those that stand there are words, and no more than there are records
pub record Ahead (rs : List Record) : Type 0 where
  pub few : words_ahead rs ≤ length rs
  pub only : OnlyWords (take (words_ahead rs) rs)

ahead_by : (r : Record) (rs : List Record) (t : Bool) → is_word r ≡ t → Ahead rs → Ahead (r ∷ rs)
unfolding words_ahead OnlyWords
ahead_by r rs true e a =
    let n = ahead_more r rs e in
    record {
      few = omega (arith, n, a.few);
      only = rw n (e, a.only);
    }
ahead_by r rs false e a =
    let n = ahead_stop r rs e in
    record {
      few = omega (arith, n);
      only = rw n tt;
    }

pub ahead : (rs : List Record) → Ahead rs
unfolding words_ahead OnlyWords
ahead [] = record { few = omega arith; only = tt }
ahead (r ∷ rs) = ahead_by r rs (is_word r) refl (ahead rs)

-- of the records of a stream, once n of them are found to be words
module _ (s : List ℕ) (i most : ℕ) where
  abbrev pub Found : ℕ → Type 0
  Found n = words_ahead (records_from s i most) ≡ n + words_ahead (records_from s (i + n) (i + most - (i + n)))

  pub none_found : Found 0
  none_found =
      let e : most ≡ i + most - (i + 0) = omega arith in
      (λ t. words_ahead (records_from s (sym (add-zero i) t) (e t))) ∙ sym (zero-add _)

  module _ (n : ℕ) (h : n < most) (f : Found n) where
    pub one_found : is_word (record_at s (i + n)) ≡ true → Found (n + 1)
    one_found w =
        let e : i + n + 1 ≡ i + (n + 1) = omega arith in
        let step = ap words_ahead (records_step_lem s (i + n) (i + most) (omega arith)) ∙ ahead_more (record_at s (i + n)) _ w
        ∙ ap (λ (k : ℕ). suc (words_ahead (records_from s k (i + most - k)))) e in
        omega (arith, f, step)

    pub all_found : is_word (record_at s (i + n)) ≡ false → n ≡ words_ahead (records_from s i most)
    all_found w =
        let step = ap words_ahead (records_step_lem s (i + n) (i + most) (omega arith)) ∙ ahead_stop (record_at s (i + n)) _ w in
        omega (arith, f, step)

  pub only_words_found : (n : ℕ) → n ≡ most → Found n → most ≡ words_ahead (records_from s i most)
  unfolding words_ahead
  only_words_found n e f =
      let k : i + n ≡ i + most = omega (arith, e) in
      let step = ap (λ (x : ℕ). words_ahead (records_from s x (i + most - x))) k ∙ ap words_ahead (records_end s (i + most)) in
      omega (arith, e, f, step)

-- ---- the records of a stream, from record i to record n

-- what is known of a run of k words
pub record Taken (c : Chip) (s : List ℕ) (i n k : ℕ) : Type 0 where
  pub any : c.due.any ≡ true
  pub fits : i + k ≤ n
  pub due : k ≤ due_in_all c.blit c.due
  pub only : OnlyWords (records_from s i k)

pub none_due : (c : Chip) (rs : List Record) → c.due.any ≡ false → words_taken c rs ≡ 0
unfolding words_taken
none_due c rs e = rw e

some_taken : (c : Chip) (rs : List Record) → c.due.any ≡ true → words_taken c rs ≡ words_ahead (take (due_in_all c.blit c.due) rs)
unfolding words_taken
some_taken c rs e = rw e

-- in a stream: of the records there are, as many as are due
pub taken_ahead : (c : Chip) (s : List ℕ) (i n : ℕ) → c.due.any ≡ true
    → words_ahead (records_from s i (min (due_in_all c.blit c.due) n)) ≡ words_taken c (records_from s i n)
taken_ahead c s i n e = sym (some_taken c (records_from s i n) e ∙ ap words_ahead (records_take s (due_in_all c.blit c.due) i n))

taken_by : (c : Chip) (s : List ℕ) (i n k : ℕ) (t : Bool) → c.due.any ≡ t → i ≤ n → k ≡ words_taken c (records_from s i (n - i)) → 0 < k → Taken c s i n k
taken_by c s i n k false e h is some = absurd (omega (arith, some, is, none_due c (records_from s i (n - i)) e))
taken_by c s i n k true e h is some =
    let q : ℕ = min (due_in_all c.blit c.due) (n - i) in
    let rs : List Record = records_from s i q in
    let a = ahead rs in
    let same : k ≡ words_ahead rs = is ∙ sym (taken_ahead c s i (n - i) e) in
    let few : k ≤ q = omega (arith, same, a.few, length_from s i q) in
    let all : min k q ≡ k = omega (arith, few) in
    record {
      any = e;
      fits = omega (arith, few, h);
      due = omega (arith, few);
      only = subst OnlyWords ((λ t. take (sym same t) rs) ∙ records_take s k i q ∙ ap (records_from s i) all) a.only;
    }

pub taken : (c : Chip) (s : List ℕ) (i n k : ℕ) → i ≤ n → k ≡ words_taken c (records_from s i (n - i)) → 0 < k → Taken c s i n k
taken c s i n k = taken_by c s i n k c.due.any refl

-- where none is taken, what is not refused is no data word
front_word : (c : Chip) (r : Record) (rs : List Record) → c.due.any ≡ true → is_word r ≡ true → 0 < words_taken c (r ∷ rs)
front_word c r rs e w = more (due_in_all c.blit c.due) (some_due c.blit c.due) (some_taken c (r ∷ rs) e)
  where
    more : (d : ℕ) → 0 < d → words_taken c (r ∷ rs) ≡ words_ahead (take d (r ∷ rs)) → 0 < words_taken c (r ∷ rs)
    more zero p q = absurd (omega (arith, p))
    more (suc d) p q = omega (arith, q, ahead_more r (take d rs) w)

no_data_lem : (m : ℕ) (c : Chip) (r : Record) (rs : List Record) (t : Bool) → is_data r ≡ t → words_taken c (r ∷ rs) ≡ 0 → refusal m c r ≡ 0 → is_data r ≡ false
no_data_lem m c r rs false e z a = e
no_data_lem m c r rs true e z a =
    absurd (omega (arith, z, front_word c r rs (admitted_data m c r e a) (λ t. e t && (admits m c r a).field t)))

pub none_taken : (m : ℕ) (c : Chip) (s : List ℕ) (i n : ℕ) → i < n → words_taken c (records_from s i (n - i)) ≡ 0 → refusal m c (record_at s i) ≡ 0 → is_data (record_at s i) ≡ false
none_taken m c s i n h z a =
    no_data_lem m c (record_at s i) (records_from s (i + 1) (n - (i + 1))) (is_data (record_at s i)) refl (ap (words_taken c) (sym (records_step_lem s i n h)) ∙ z) a

-- the first pass goes on behind the run
pub run_words : (m : ℕ) (c : Chip) (s : List ℕ) (i n k : ℕ) → Taken c s i n k
    → run m c i (records_from s i (n - i)) ≡ run m (chip_after_words c k) (i + k) (records_from s (i + k) (n - (i + k)))
run_words m c s i n k w =
    let e = length_from s i k in
    ap (run m c i) (records_run s i k n w.fits)
    ∙ admitting m c i (records_from s i k) (records_from s (i + k) (n - (i + k))) w.any w.only (omega (arith, e, w.due))
    ∙ (λ t. run m (chip_after_words c (e t)) (i + e t) (records_from s (i + k) (n - (i + k))))

-- the second pass: while data is due, what is not refused is a run
pub admitted_run : (m : ℕ) (c : Chip) (s : List ℕ) (i n k : ℕ) → c.due.any ≡ true → i + k ≤ n → k ≤ due_in_line c.blit c.due
    → (run m c i (records_from s i (n - i))).number ≡ 0 → Taken c s i n k
admitted_run m c s i n k any fits few e =
    let due : k ≤ due_in_all c.blit c.due = omega (arith, few, line_in_all c.blit c.due) in
    record {
      any = any;
      fits = fits;
      due = due;
      only = admitting_no_other m c i (records_from s i k) (records_from s (i + k) (n - (i + k))) any (omega (arith, length_from s i k, due))
          (ap (λ (rs : List Record). (run m c i rs).number) (sym (records_run s i k n fits)) ∙ e);
    }

pub applied_words : (c : Chip) (s : List ℕ) (i n k : ℕ) (old : List ℕ) → Taken c s i n k → k ≤ due_in_line c.blit c.due
    → applied c (records_from s i (n - i)) old
    ≡ applied (chip_after_words c k) (records_from s (i + k) (n - (i + k)))
    (chip_words (write_of c.blit (λ x y. 0)) c.due.line c.due.word (values_of (records_from s i k)) old)
applied_words c s i n k old w few =
    let e = length_from s i k in
    ap (λ (rs : List Record). applied c rs old) (records_run s i k n w.fits)
    ∙ applying c (records_from s i k) (records_from s (i + k) (n - (i + k))) old w.only (omega (arith, e, few))
    ∙ (λ t. applied (chip_after_words c (e t)) (records_from s (i + k) (n - (i + k)))
    (chip_words (write_of c.blit (λ x y. 0)) c.due.line c.due.word (values_of (records_from s i k)) old))
