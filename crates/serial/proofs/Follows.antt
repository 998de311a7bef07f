-- Records one after another do what the whole player's two passes do: the run up to the first that is refused, and the work of those before it.
use Prim.Native.Nat.{ℕ, zero, suc, ◌+◌, ◌/◌, ◌<◌, ◌≤◌, ◌^◌, min}
use mathlib.Core.Path.{◌≡◌, refl, sym, ap, ◌∙◌, subst}
use mathlib.Core.Bool.{Bool, true, false, cond}
use mathlib.Core.List.{List, [], ◌∷◌}
use native.Mathlib.Omega.{arith}
use lib.Dec.{eqb, leb}
use lib.ListN.{length}
use borrow.Author.Tests.{eq-eqb, ne_eqb, eqb-true, eqb-false, leb-true}
use Rattle.record.specs.Record.{record_at, records_from, records_of}
use Rattle.record.specs.declared.Record.{Record}
use Rattle.record.proofs.Records.{records_count}
use Rattle.record.proofs.Choice.{both_ways}
use Rattle.screen.specs.Fields.{edges_fit}
use Rattle.screen.specs.Narrow.{Narrow}
use Rattle.screen.proofs.Fits.{edges_say}
use Rattle.chip.specs.Register.{fits}
use Rattle.chip.specs.Admit.{refusal, chip_after, effect}
use Rattle.chip.specs.Play.{run, applied}
use Rattle.chip.specs.declared.Chip.{Chip}
use Rattle.chip.specs.Play.{Running}
use Rattle.chip.proofs.Runs.{run_taken, run_refused}
use Rattle.chip.proofs.Screens.{Each, each_run}
use Rattle.serial.specs.State.{most_records, counted}
use Rattle.serial.specs.Serial.{Stage}
use Rattle.serial.specs.Taking.{stage_at, stage_of, records_taken}
use Rattle.serial.specs.Cutting.{before_refused}
use Rattle.serial.proofs.Taken.{record_taken_lem, record_refused, records_taken_lem, records_stop}

-- a number as far as the count goes
abbrev pub up_to : ℕ → ℕ
up_to n = min n most_records

-- ---- the records before the first that is refused

module _ (m : ℕ) (c : Chip) (r : Record) (rs : List Record) where
  pub before_taken : refusal m c r ≡ 0 → before_refused m c (r ∷ rs) ≡ r ∷ before_refused m (chip_after c r) rs
  unfolding before_refused
  before_taken e = rw (eq-eqb (refusal m c r) 0 e)

  pub before_none : (refusal m c r ≡ 0 → ⊥) → before_refused m c (r ∷ rs) ≡ []
  unfolding before_refused
  before_none e = rw (ne_eqb (refusal m c r) 0 e)

-- how many they are, by the run: all, or those before the refused one
abbrev pub Reached : Running → ℕ → ℕ → ℕ → Type 0
Reached r i n k = (r.number ≡ 0 → k ≡ n) × ((r.number ≡ 0 → ⊥) → r.place ≡ i + k)

reached_taken : (r s : Running) (i n k l : ℕ) → r ≡ s → l ≡ suc k → Reached s (suc i) n k → Reached r i (suc n) l
reached_taken r s i n k l e q f = (λ z. omega (arith, f.0 (sym (ap (λ (x : Running). x.number) e) ∙ z)), λ z. ap (λ (x : Running). x.place) e ∙ f.1 (λ y. z (ap (λ (x : Running). x.number) e ∙ y)) ∙ omega arith)

pub reached : (m : ℕ) (c : Chip) (i : ℕ) (rs : List Record) → Reached (run m c i rs) i (length rs) (length (before_refused m c rs))
unfolding run before_refused
reached m c i [] = (λ e. refl, λ z. absurd (z refl))
reached m c i (r ∷ rs) = by_test (reached m (chip_after c r) (suc i) rs) (eqb (refusal m c r) 0) refl
  where
    by_test : Reached (run m (chip_after c r) (suc i) rs) (suc i) (length rs) (length (before_refused m (chip_after c r) rs))
        → (t : Bool) → eqb (refusal m c r) 0 ≡ t → Reached (run m c i (r ∷ rs)) i (suc (length rs)) (length (before_refused m c (r ∷ rs)))
    by_test others true q =
        let e = eqb-true (refusal m c r) 0 q in
        reached_taken _ _ i (length rs) _ _ (run_taken m c i r rs e) (ap (λ (l : List Record). length l) (before_taken m c r rs e)) others
    by_test others false q =
        let e = eqb-false (refusal m c r) 0 q in
        let s = run_refused m c i r rs e in
        let n : length (before_refused m c (r ∷ rs)) ≡ 0 = ap (λ (l : List Record). length l) (before_none m c r rs e) in (
          λ z. absurd (e (sym (ap (λ (x : Running). x.number) s) ∙ z)),
          λ z. ap (λ (x : Running). x.place) s ∙ omega arith,
        )

-- they are the first of a stream's records
pub before_first : (m : ℕ) (c : Chip) (s : List ℕ) (i n : ℕ) → before_refused m c (records_from s i n) ≡ records_from s i (length (before_refused m c (records_from s i n)))
unfolding records_from before_refused
before_first m c s i zero = refl
before_first m c s i (suc n) = by_test (before_first m (chip_after c (record_at s i)) s (suc i) n) (eqb (refusal m c (record_at s i)) 0) refl
  where
    by_test : before_refused m (chip_after c (record_at s i)) (records_from s (suc i) n) ≡ records_from s (suc i) (length (before_refused m (chip_after c (record_at s i)) (records_from s (suc i) n)))
        → (t : Bool) → eqb (refusal m c (record_at s i)) 0 ≡ t
        → before_refused m c (records_from s i (suc n)) ≡ records_from s i (length (before_refused m c (records_from s i (suc n))))
    by_test f true q = rw q (ap (λ (l : List Record). record_at s i ∷ l) f)
    by_test f false q = rw q

-- none of them is refused
pub before_passes : (m : ℕ) (c : Chip) (i : ℕ) (rs : List Record) → (run m c i (before_refused m c rs)).number ≡ 0
unfolding run before_refused
before_passes m c i [] = refl
before_passes m c i (r ∷ rs) = by_test (before_passes m (chip_after c r) (suc i) rs) (eqb (refusal m c r) 0) refl
  where
    by_test : (run m (chip_after c r) (suc i) (before_refused m (chip_after c r) rs)).number ≡ 0 → (t : Bool) → eqb (refusal m c r) 0 ≡ t → (run m c i (before_refused m c (r ∷ rs))).number ≡ 0
    by_test f true q = rw q (rw q f)
    by_test f false q = rw q

-- they are no more than all
pub before_few : (m : ℕ) (c : Chip) (rs : List Record) → length (before_refused m c rs) ≤ length rs
unfolding before_refused
before_few m c [] = omega arith
before_few m c (r ∷ rs) =
    both_ways (λ (l : List Record). length l ≤ suc (length rs)) (eqb (refusal m c r) 0) _ _
    (λ e. omega (arith, before_few m (chip_after c r) rs)) (λ e. omega arith)

-- ---- the stage afterwards

-- chip and number are the run's, the count has the records before, and the memory has their work
abbrev pub ran_to : ℕ → Chip → ℕ → ℕ → List Record → List ℕ → Stage
ran_to m c i n rs old =
    stage_of (record { chip = (run m c i rs).chip; count = up_to (n + length (before_refused m c rs)); number = (run m c i rs).number }) (applied c (before_refused m c rs) old)

-- the law below
abbrev Follows : ℕ → Chip → ℕ → ℕ → List Record → List ℕ → Type 0
Follows m c i n rs old = records_taken m (stage_at c n old) rs ≡ ran_to m c i n rs old

module _ (m : ℕ) (c : Chip) (i n : ℕ) (r : Record) (rs : List Record) (old : List ℕ) (most : n ≤ most_records) where
  follows_taken : refusal m c r ≡ 0 → Follows m (chip_after c r) (suc i) (counted n) rs (effect c r old) → Follows m c i n (r ∷ rs) old
  unfolding applied
  follows_taken e others =
      let b : List Record = before_refused m (chip_after c r) rs in
      let k : up_to (counted n + length b) ≡ up_to (n + suc (length b)) = omega arith in
      records_taken_lem m (stage_at c n old) r rs refl
      ∙ ap (λ (g : Stage). records_taken m g rs) (record_taken_lem m c n old r e)
      ∙ others
      ∙ (λ t. stage_of (record { chip = (sym (run_taken m c i r rs e) t).chip; count = k t; number = (sym (run_taken m c i r rs e) t).number }) (applied (chip_after c r) b (effect c r old)))
      ∙ (λ t. stage_of (record { chip = (run m c i (r ∷ rs)).chip; count = up_to (n + length (sym (before_taken m c r rs e) t)); number = (run m c i (r ∷ rs)).number }) (applied c (sym (before_taken m c r rs e) t) old))

  follows_refused : (refusal m c r ≡ 0 → ⊥) → Follows m c i n (r ∷ rs) old
  unfolding applied
  follows_refused e =
      let k : n ≡ up_to (n + 0) = omega arith in
      let x = sym (run_refused m c i r rs e) in
      records_taken_lem m (stage_at c n old) r rs refl
      ∙ ap (λ (g : Stage). records_taken m g rs) (record_refused m c n old r e)
      ∙ records_stop m (stage_of (record { chip = c; count = n; number = refusal m c r }) old) rs e
      ∙ (λ t. stage_of (record { chip = (x t).chip; count = k t; number = (x t).number }) old)
      ∙ (λ t. let b = sym (before_none m c r rs e) t in stage_of (record { chip = (run m c i (r ∷ rs)).chip; count = up_to (n + length b); number = (run m c i (r ∷ rs)).number }) (applied c b old))

  follows_either : Follows m (chip_after c r) (suc i) (counted n) rs (effect c r old) → (t : Bool) → eqb (refusal m c r) 0 ≡ t → Follows m c i n (r ∷ rs) old
  follows_either others true q = follows_taken (eqb-true (refusal m c r) 0 q) others
  follows_either others false q = follows_refused (eqb-false (refusal m c r) 0 q)

pub follows : (m : ℕ) (c : Chip) (i n : ℕ) (rs : List Record) (old : List ℕ) → n ≤ most_records → records_taken m (stage_at c n old) rs ≡ ran_to m c i n rs old
unfolding records_taken run applied before_refused
follows m c i n [] old most = let k : n ≡ up_to (n + 0) = omega arith in ap (λ (x : ℕ). stage_at c x old) k
follows m c i n (r ∷ rs) old most = follows_either m c i n r rs old most (follows m (chip_after c r) (suc i) (counted n) rs (effect c r old) (omega arith)) (eqb (refusal m c r) 0) refl

-- ---- the two passes of the code

-- the records that a run takes
pub taken_is : (r : Running) (n k : ℕ) → Reached r 0 n k → cond (eqb r.number 0) n r.place ≡ k
taken_is r n k reach = by_test (eqb r.number 0) refl
  where
    by_test : (t : Bool) → eqb r.number 0 ≡ t → cond t n r.place ≡ k
    by_test true q = sym (reach.0 (eqb-true r.number 0 q))
    by_test false q = omega (arith, reach.1 (eqb-false r.number 0 q))

module _ (m : ℕ) (c : Chip) (bytes : List ℕ) (r : Running) (taken : ℕ) (ran : r ≡ run m c 0 (records_of bytes)) (by : taken ≡ cond (eqb r.number 0) (length bytes / 8) r.place) where
  abbrev before : List Record
  before = before_refused m c (records_of bytes)

  reach : Reached r 0 (length bytes / 8) (length before)
  reach = subst (λ (x : Running). Reached x 0 (length bytes / 8) (length before)) (sym ran) (subst (λ (n : ℕ). Reached (run m c 0 (records_of bytes)) 0 n (length before)) (records_count bytes) (reached m c 0 (records_of bytes)))

  count_is : taken ≡ length before
  count_is = by ∙ taken_is r (length bytes / 8) (length before) reach

  pub pass_fits : taken ≤ length bytes / 8
  pass_fits = omega (arith, count_is, before_few m c (records_of bytes), records_count bytes)

  first_are : records_from bytes 0 taken ≡ before
  unfolding records_of
  first_are = ap (records_from bytes 0) count_is ∙ sym (before_first m c bytes 0 (length bytes / 8))

  pub pass_admitted : (run m c 0 (records_from bytes 0 taken)).number ≡ 0
  pass_admitted = ap (λ (rs : List Record). (run m c 0 rs).number) first_are ∙ before_passes m c 0 (records_of bytes)

  -- what both passes give is what records one after another do
  pub passes : (n count : ℕ) (old new : List ℕ) → n ≤ most_records → count ≡ up_to (n + taken) → new ≡ applied c (records_from bytes 0 taken) old
      → stage_of (record { chip = r.chip; count = count; number = r.number }) new ≡ records_taken m (stage_at c n old) (records_of bytes)
  passes n count old new most is drawn =
      (λ t. stage_of (record { chip = (ran t).chip; count = (is ∙ ap (λ (k : ℕ). up_to (n + k)) count_is) t; number = (ran t).number }) ((drawn ∙ ap (λ (rs : List Record). applied c rs old) first_are) t))
      ∙ sym (follows m c 0 n (records_of bytes) old most)

-- the screen registers stay in 32 bits
abbrev Word : ℕ → Type 0
Word v = v < 2 ^ 32

word_up_to : (k : ℕ) → k ≤ 65535 → (v : ℕ) → leb v k ≡ true → Word v
word_up_to k h v e = omega (arith, leb-true v k e)

word_edges : (v : ℕ) → edges_fit v ≡ true → Word v
word_edges v e = omega (arith, (edges_say v e).end)

pub narrow_run : (m : ℕ) (c : Chip) (i : ℕ) (rs : List Record) → Narrow c.screen → Narrow (run m c i rs).chip.screen
unfolding fits
narrow_run m c i rs s =
    let e : Each Word Word Word (run m c i rs).chip.screen =
    each_run Word Word Word (word_up_to 0xFFFF (omega arith)) (word_up_to 0x3FF (omega arith)) word_edges m c i rs
    (record { main_start = s.main_start; main_offset = s.main_offset; window_start = s.window_start; window_offset = s.window_offset; x = s.x; y = s.y }) in
    record { main_start = e.main_start; main_offset = e.main_offset; window_start = e.window_start; window_offset = e.window_offset; x = e.x; y = e.y }
