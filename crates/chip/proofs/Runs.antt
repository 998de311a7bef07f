-- Laws of `run` and `applied`: record by record, one part of a stream after the other, and what no refusal says.
use Prim.Native.Nat.{ℕ, suc, ◌+◌, ◌-◌, ◌<◌}
use mathlib.Core.Path.{◌≡◌, refl, sym, ap, ◌∙◌}
use mathlib.Core.List.{List, [], ◌∷◌, ◌++◌}
use mathlib.Core.Bool.{Bool, true, false}
use native.Mathlib.Nat.{add-zero}
use native.Mathlib.Numerals.{add-one}
use native.Mathlib.Omega.{arith}
use lib.Dec.{eqb}
use lib.ListN.{length}
use borrow.Author.Tests.{eq-eqb, ne_eqb, eqb-true, eqb-false}
use Rattle.record.specs.Record.{record_at, records_from}
use Rattle.record.specs.declared.Record.{Record}
use Rattle.record.proofs.Records.{records_step_lem}
use Rattle.chip.specs.Admit.{refusal, chip_after, effect}
use Rattle.chip.specs.Play.{run, applied}
use Rattle.chip.specs.declared.Chip.{Chip}
use Rattle.chip.specs.Play.{Running}

-- a run that is not refused
abbrev pub reached : Chip → Running
reached c = record { number = 0; place = 0; chip = c }

-- ---- one record

pub run_end : (m : ℕ) (c : Chip) (i : ℕ) → run m c i [] ≡ reached c
unfolding run
run_end m c i = refl

pub run_taken : (m : ℕ) (c : Chip) (i : ℕ) (r : Record) (rs : List Record) → refusal m c r ≡ 0 → run m c i (r ∷ rs) ≡ run m (chip_after c r) (suc i) rs
unfolding run
run_taken m c i r rs e = rw (eq-eqb (refusal m c r) 0 e)

pub run_refused : (m : ℕ) (c : Chip) (i : ℕ) (r : Record) (rs : List Record) → (refusal m c r ≡ 0 → ⊥)
    → run m c i (r ∷ rs) ≡ record { number = refusal m c r; place = i; chip = c }
unfolding run
run_refused m c i r rs e = rw (ne_eqb (refusal m c r) 0 e)

pub applied_end : (c : Chip) (old : List ℕ) → applied c [] old ≡ old
unfolding applied
applied_end c old = refl

pub applied_step : (c : Chip) (r : Record) (rs : List Record) (old : List ℕ) → applied c (r ∷ rs) old ≡ applied (chip_after c r) rs (effect c r old)
unfolding applied
applied_step c r rs old = refl

-- ---- no refusal

-- the first record is admitted, and so are the others after it
first_admitted : (m : ℕ) (c : Chip) (i : ℕ) (r : Record) (rs : List Record) (t : Bool) → eqb (refusal m c r) 0 ≡ t → (run m c i (r ∷ rs)).number ≡ 0 → refusal m c r ≡ 0
first_admitted m c i r rs true q e = eqb-true (refusal m c r) 0 q
first_admitted m c i r rs false q e = sym (ap (λ (x : Running). x.number) (run_refused m c i r rs (eqb-false (refusal m c r) 0 q))) ∙ e

pub admitted : (m : ℕ) (c : Chip) (i : ℕ) (r : Record) (rs : List Record) → (run m c i (r ∷ rs)).number ≡ 0
    → (refusal m c r ≡ 0) × ((run m (chip_after c r) (suc i) rs).number ≡ 0)
admitted m c i r rs e =
    let a = first_admitted m c i r rs (eqb (refusal m c r) 0) refl e in
    (a, sym (ap (λ (x : Running). x.number) (run_taken m c i r rs a)) ∙ e)

-- every record of a list is admitted, one after the other
unfoldable pub Admitted : ℕ → Chip → List Record → Type 0
Admitted m c [] = Unit {0}
Admitted m c (r ∷ rs) = (refusal m c r ≡ 0) × Admitted m (chip_after c r) rs

pub all_admitted : (m : ℕ) (c : Chip) (i : ℕ) (rs : List Record) → (run m c i rs).number ≡ 0 → Admitted m c rs
unfolding Admitted
all_admitted m c i [] e = tt
all_admitted m c i (r ∷ rs) e =
    let a = admitted m c i r rs e in
    (a.0, all_admitted m (chip_after c r) (suc i) rs a.1)

pub all_admitted_back : (m : ℕ) (c : Chip) (i : ℕ) (rs : List Record) → Admitted m c rs → (run m c i rs).number ≡ 0
unfolding Admitted
all_admitted_back m c i [] a = ap (λ (x : Running). x.number) (run_end m c i)
all_admitted_back m c i (r ∷ rs) a =
    ap (λ (x : Running). x.number) (run_taken m c i r rs a.0) ∙ all_admitted_back m (chip_after c r) (suc i) rs a.1

-- ---- one part after the other

pub run_append : (m : ℕ) (c : Chip) (i : ℕ) (xs ys : List Record) → (run m c i xs).number ≡ 0
    → run m c i (xs ++ ys) ≡ run m (run m c i xs).chip (i + length xs) ys
run_append m c i [] ys e =
    (λ t. run m (ap (λ (x : Running). x.chip) (sym (run_end m c i)) t) (sym (add-zero i) t) ys)
run_append m c i (r ∷ xs) ys e =
    let a = admitted m c i r xs e in
    let n : suc i + length xs ≡ i + suc (length xs) = omega arith in
    run_taken m c i r (xs ++ ys) a.0 ∙ run_append m (chip_after c r) (suc i) xs ys a.1
    ∙ (λ t. run m (ap (λ (x : Running). x.chip) (sym (run_taken m c i r xs a.0)) t) (n t) ys)

pub applied_append : (m : ℕ) (c : Chip) (i : ℕ) (xs ys : List Record) (old : List ℕ) → (run m c i xs).number ≡ 0
    → applied c (xs ++ ys) old ≡ applied (run m c i xs).chip ys (applied c xs old)
applied_append m c i [] ys old e =
    (λ t. applied (ap (λ (x : Running). x.chip) (sym (run_end m c i)) t) ys (sym (applied_end c old) t))
applied_append m c i (r ∷ xs) ys old e =
    let a = admitted m c i r xs e in
    applied_step c r (xs ++ ys) old ∙ applied_append m (chip_after c r) (suc i) xs ys (effect c r old) a.1
    ∙ (λ t. applied (ap (λ (x : Running). x.chip) (sym (run_taken m c i r xs a.0)) t) ys (sym (applied_step c r xs old) t))

-- ---- the records of a stream, from record i on

pub run_next : (m : ℕ) (c : Chip) (s : List ℕ) (i n : ℕ) → i < n → refusal m c (record_at s i) ≡ 0
    → run m c i (records_from s i (n - i)) ≡ run m (chip_after c (record_at s i)) (i + 1) (records_from s (i + 1) (n - (i + 1)))
run_next m c s i n h e =
    ap (run m c i) (records_step_lem s i n h) ∙ run_taken m c i (record_at s i) _ e
    ∙ ap (λ (k : ℕ). run m (chip_after c (record_at s i)) k (records_from s (i + 1) (n - (i + 1)))) (sym (add-one i))

pub run_last : (m : ℕ) (c : Chip) (s : List ℕ) (i n : ℕ) → i < n → (refusal m c (record_at s i) ≡ 0 → ⊥)
    → run m c i (records_from s i (n - i)) ≡ record { number = refusal m c (record_at s i); place = i; chip = c }
run_last m c s i n h e = ap (run m c i) (records_step_lem s i n h) ∙ run_refused m c i (record_at s i) _ e

pub applied_next : (c : Chip) (s : List ℕ) (i n : ℕ) (old : List ℕ) → i < n
    → applied c (records_from s i (n - i)) old ≡ applied (chip_after c (record_at s i)) (records_from s (i + 1) (n - (i + 1))) (effect c (record_at s i) old)
applied_next c s i n old h =
    ap (λ (rs : List Record). applied c rs old) (records_step_lem s i n h) ∙ applied_step c (record_at s i) _ old

-- where the rest is not refused, record i is admitted
pub admitted_next : (m : ℕ) (c : Chip) (s : List ℕ) (i n : ℕ) → i < n → (run m c i (records_from s i (n - i))).number ≡ 0
    → (refusal m c (record_at s i) ≡ 0) × ((run m (chip_after c (record_at s i)) (i + 1) (records_from s (i + 1) (n - (i + 1)))).number ≡ 0)
admitted_next m c s i n h e =
    let a = admitted m c i (record_at s i) _ (sym (ap (λ (rs : List Record). (run m c i rs).number) (records_step_lem s i n h)) ∙ e) in
    (a.0, sym (ap (λ (x : Running). x.number) (run_next m c s i n h a.0)) ∙ e)
