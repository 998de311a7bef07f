-- One whole record, and records one after another.
use Prim.Native.Nat.{ℕ}
use mathlib.Core.Path.{◌≡◌, refl}
use mathlib.Core.List.{List, [], ◌∷◌}
use borrow.Author.Tests.{eq-eqb, ne_eqb}
use Rattle.record.specs.declared.Record.{Record}
use Rattle.chip.specs.Admit.{refusal, chip_after, effect}
use Rattle.chip.specs.declared.Chip.{Chip}
use Rattle.serial.specs.State.{counted}
use Rattle.serial.specs.Serial.{Stage, record_taken}
use Rattle.serial.specs.Taking.{stage_at, stage_of, records_taken}

-- ---- one record

module _ (m : ℕ) (c : Chip) (n : ℕ) (old : List ℕ) (r : Record) where
  pub record_taken_lem : refusal m c r ≡ 0 → record_taken m (stage_at c n old) r ≡ stage_at (chip_after c r) (counted n) (effect c r old)
  unfolding record_taken
  record_taken_lem e = rw (eq-eqb (refusal m c r) 0 e)

  pub record_refused : (refusal m c r ≡ 0 → ⊥) → record_taken m (stage_at c n old) r ≡ stage_of (record { chip = c; count = n; number = refusal m c r }) old
  unfolding record_taken
  record_refused e = rw (ne_eqb (refusal m c r) 0 e)

-- ---- records one after another

pub records_end : (m : ℕ) (g : Stage) → records_taken m g [] ≡ g
unfolding records_taken
records_end m g = refl

pub records_taken_lem : (m : ℕ) (g : Stage) (r : Record) (rs : List Record) → g.state.number ≡ 0 → records_taken m g (r ∷ rs) ≡ records_taken m (record_taken m g r) rs
unfolding records_taken
records_taken_lem m g r rs e = rw (eq-eqb g.state.number 0 e)

-- once a record was refused no other is taken
pub records_stop : (m : ℕ) (g : Stage) (rs : List Record) → (g.state.number ≡ 0 → ⊥) → records_taken m g rs ≡ g
unfolding records_taken
records_stop m g [] h = refl
records_stop m g (r ∷ rs) h = rw (ne_eqb g.state.number 0 h)
