-- Laws of the refusal of a register write in its field: one for each way out.
use Prim.Native.Nat.{ℕ}
use mathlib.Core.Path.{◌≡◌, sym, ◌∙◌}
use mathlib.Core.Bool.{true, false, not, ◌||◌, cond}
use mathlib.Core.List.{[], ◌∷◌}
use Rattle.record.specs.Checks.{row, first_of}
use Rattle.record.specs.declared.Record.{Record}
use Rattle.chip.specs.Register.{fits}
use Rattle.chip.specs.Start.{startable, within}
use Rattle.chip.specs.Admit.{is_data, starts, written, refusal}
use Rattle.chip.specs.declared.Chip.{Chip}
use Rattle.chip.proofs.Admits.{field_listed, field_refusal, start_refusal}

module _ (m : ℕ) (c : Chip) (r : Record) (d : is_data r ≡ false) (f : fits r.number r.value ≡ true) where
  -- one that starts nothing
  pub plain : starts r ≡ false → cond c.due.any 23 0 ≡ refusal m c r
  unfolding first_of
  plain s = field_refusal m c r d s f

  -- a start
  begun : starts r ≡ true → first_of (row 21 (not (startable (written c r))) ∷ row 22 (not (within m (written c r))) ∷ row 23 c.due.any ∷ []) ≡ refusal m c r
  unfolding first_of
  begun s =
      (λ t. first_of (row 20 (not (sym (field_listed r.number r.value f) t)) ∷ row 21 (not (sym f t) || not (startable (written c r))) ∷ row 22 (not (within m (written c r))) ∷ row 23 c.due.any ∷ []))
      ∙ start_refusal m c r d s

  pub not_startable : starts r ≡ true → startable (written c r) ≡ false → 21 ≡ refusal m c r
  unfolding first_of
  not_startable s t = rw t at (begun s)

  pub not_within : starts r ≡ true → startable (written c r) ≡ true → within m (written c r) ≡ false → 22 ≡ refusal m c r
  unfolding first_of
  not_within s t w = rw (t, w) at (begun s)

  pub startable_within : starts r ≡ true → startable (written c r) ≡ true → within m (written c r) ≡ true → cond c.due.any 23 0 ≡ refusal m c r
  unfolding first_of
  startable_within s t w = rw (t, w) at (begun s)
