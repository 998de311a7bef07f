-- What an admitted record says of the registers, and its effect on the memory.
use Prim.Native.Nat.{ℕ}
use mathlib.Core.Path.{◌≡◌, refl, sym, ap, ◌∙◌}
use mathlib.Core.Bool.{Bool, true, false, not, ◌&&◌, ◌||◌, cond}
use mathlib.Core.List.{List, [], ◌∷◌}
use native.Mathlib.Omega.{arith}
use lib.Dec.{eqb, leb}
use Rattle.record.specs.Checks.{row, first_of, Numbered, AllPass}
use Rattle.record.specs.declared.Record.{Record}
use Rattle.record.proofs.Checks.{none, none_back}
use Rattle.blit.specs.Words.{chip_word}
use Rattle.chip.specs.Register.{listed, fits, screen_after, blit_after}
use Rattle.chip.specs.Start.{operation, startable, within, write_of, started}
use Rattle.chip.specs.Admit.{is_data, starts, written, admit_rows, refusal, due_after, chip_after, effect}
use Rattle.chip.specs.declared.Registers.{Registers}
use Rattle.chip.specs.declared.Chip.{Chip}

-- ---- a record that is not refused

pub record Admits (m : ℕ) (c : Chip) (r : Record) : Type 0 where
  pub listed : listed r.number ≡ true
  pub field : fits r.number r.value ≡ true
  pub startable : starts r ≡ true → startable (written c r) ≡ true
  pub within : starts r ≡ true → within m (written c r) ≡ true
  pub order : cond (is_data r) (not c.due.any) c.due.any ≡ false

-- every row of the table has a number
pub numbered : (m : ℕ) (c : Chip) (r : Record) → Numbered (admit_rows m c r)
unfolding Numbered admit_rows
numbered m c r = (omega arith, (omega arith, (omega arith, (omega arith, tt))))

pub is_true : (a : Bool) → not a ≡ false → a ≡ true
is_true true e = refl
is_true false e = sym e

first_true : (a b : Bool) → (not a || b) ≡ false → a ≡ true
first_true true b e = refl
first_true false b e = sym e

second_false : (a b : Bool) → (not a || b) ≡ false → b ≡ false
second_false true b e = e
second_false false true e = e
second_false false false e = refl

then_true : (a b : Bool) → (a && not b) ≡ false → a ≡ true → b ≡ true
then_true a true e h = refl
then_true true false e h = sym e
then_true false false e h = h

then_false : (a b : Bool) → (a ≡ true → b ≡ true) → (a && not b) ≡ false
then_false true b f = ap not (f refl)
then_false false b f = refl

pub admits : (m : ℕ) (c : Chip) (r : Record) → refusal m c r ≡ 0 → Admits m c r
unfolding refusal admit_rows AllPass
admits m c r e =
    let p = none (admit_rows m c r) (numbered m c r) e in
    let s = second_false (fits r.number r.value) (starts r && not (startable (written c r))) p.1.0 in
    record {
      listed = is_true (listed r.number) p.0;
      field = first_true (fits r.number r.value) (starts r && not (startable (written c r))) p.1.0;
      startable = then_true (starts r) (startable (written c r)) s;
      within = then_true (starts r) (within m (written c r)) p.1.1.0;
      order = p.1.1.1.0;
    }

pub admits_back : (m : ℕ) (c : Chip) (r : Record) → Admits m c r → refusal m c r ≡ 0
unfolding refusal admit_rows AllPass
admits_back m c r a =
    none_back (admit_rows m c r) (
      ap not a.listed,
      (
        (λ t. not (a.field t) || then_false (starts r) (startable (written c r)) a.startable t),
        (
          then_false (starts r) (within m (written c r)) a.within,
          (a.order, tt),
        ),
      ),
    )

pub not_started : (b : Registers) (old : List ℕ) → operation b ≡ 0 → old ≡ started b old
unfolding started
not_started b old e = rw e

-- ---- the effect of a record

module _ (c : Chip) (r : Record) (old new : List ℕ) where
  pub word_effect : is_data r ≡ true → new ≡ chip_word (write_of c.blit (λ i j. 0)) c.due.line c.due.word r.value old → new ≡ effect c r old
  unfolding effect
  word_effect e h = rw e h

  pub start_effect : is_data r ≡ false → starts r ≡ true → new ≡ started (written c r) old → new ≡ effect c r old
  unfolding effect
  start_effect e f h = rw (e, f) h

  pub no_effect : is_data r ≡ false → starts r ≡ false → new ≡ old → new ≡ effect c r old
  unfolding effect
  no_effect e f h = rw (e, f) h

-- ---- a data word alone

or_none : (b : Bool) → (b || false) ≡ b
or_none true = refl
or_none false = refl

-- what is asked of it
pub data_refusal : (m : ℕ) (c : Chip) (r : Record) → r.number ≡ 0x10000
    → first_of (row 20 false ∷ row 21 (not (leb r.value 0xFFFF)) ∷ row 22 false ∷ row 23 (not c.due.any) ∷ []) ≡ refusal m c r
unfolding refusal admit_rows listed fits
data_refusal m c r e = simp (e, or_none)

-- it changes no register
pub data_after : (c : Chip) (r : Record) → r.number ≡ 0x10000
    → ◌≡◌ {A = Chip} (record { screen = c.screen; blit = c.blit; due = due_after c.blit c.due }) (chip_after c r)
unfolding chip_after screen_after blit_after
data_after c r e = simp e

-- ---- a register write

-- one that starts nothing
pub plain_refusal : (m : ℕ) (c : Chip) (r : Record) → is_data r ≡ false → starts r ≡ false
    → first_of (row 20 (not (listed r.number)) ∷ row 21 (not (fits r.number r.value)) ∷ row 22 false ∷ row 23 c.due.any ∷ []) ≡ refusal m c r
unfolding refusal admit_rows
plain_refusal m c r d s = simp (d, s, or_none)

-- a value that lies in a field has a register that is listed
step : (t a b x : Bool) → cond t a b ≡ true → (b ≡ true → x ≡ true) → (t || x) ≡ true
step true a b x e f = refl
step false a b x e f = f e

pub field_listed : (n v : ℕ) → fits n v ≡ true → listed n ≡ true
unfolding fits listed
field_listed n v e =
    step (eqb n 0x40) _ _ _ e (λ e1.
    step (eqb n 0x44) _ _ _ e1 (λ e2.
    step (eqb n 0x50) _ _ _ e2 (λ e3.
    step (eqb n 0x54) _ _ _ e3 (λ e4.
    step (eqb n 0x58) _ _ _ e4 (λ e5.
    step (eqb n 0x5C) _ _ _ e5 (λ e6.
    step (eqb n 0x8000) _ _ _ e6 (λ e7.
    step (eqb n 0x8008) _ _ _ e7 (λ e8.
    step (eqb n 0x800C) _ _ _ e8 (λ e9.
    step (eqb n 0x8010) _ _ _ e9 (λ e10.
    step (eqb n 0x8014) _ _ _ e10 (λ e11.
    step (eqb n 0x8018) _ _ _ e11 (λ e12.
    step (eqb n 0x801C) _ _ _ e12 (λ e13.
    step (eqb n 0x8020) _ _ _ e13 (λ e14.
    step (eqb n 0x8024) _ _ _ e14 (λ e15.
    step (eqb n 0x10000) _ _ _ e15 (λ e16.
    e16))))))))))))))))

-- such a value, where nothing starts: only the order counts
pub field_refusal : (m : ℕ) (c : Chip) (r : Record) → is_data r ≡ false → starts r ≡ false → fits r.number r.value ≡ true
    → first_of (row 20 false ∷ row 21 false ∷ row 22 false ∷ row 23 c.due.any ∷ []) ≡ refusal m c r
field_refusal m c r d s f =
    (λ t. first_of (row 20 (not (sym (field_listed r.number r.value f) t)) ∷ row 21 (not (sym f t)) ∷ row 22 false ∷ row 23 c.due.any ∷ []))
    ∙ plain_refusal m c r d s

-- a start
pub start_refusal : (m : ℕ) (c : Chip) (r : Record) → is_data r ≡ false → starts r ≡ true
    → first_of (row 20 (not (listed r.number)) ∷ row 21 (not (fits r.number r.value) || not (startable (written c r))) ∷ row 22 (not (within m (written c r))) ∷ row 23 c.due.any ∷ []) ≡ refusal m c r
unfolding refusal admit_rows
start_refusal m c r d s = simp (d, s)
