-- Laws of what playing gives back: one for each way out.
use Prim.Native.Nat.{ℕ, ◌/◌, ◌%◌}
use mathlib.Core.Path.{◌≡◌, refl, sym, ap}
use mathlib.Core.Bool.{true, false}
use mathlib.Core.List.{List}
use lib.ListN.{length}
use native.Mathlib.Omega.{arith}
use borrow.Author.Tests.{eq-eqb, ne_eqb}
use Rattle.record.specs.Record.{records_of}
use Rattle.screen.specs.declared.ScreenValues.{ScreenValues}
use Rattle.chip.specs.Play.{new_chip, run, applied, Playing, refused_by, ending, playing, played, playing_of, playing_by, answer_of}
use Rattle.chip.specs.Play.{Running}
use Rattle.std.specs.Prelude.{Ok, Err}
use Rattle.refusal.specs.Number as refusals
use Rattle.refusal.specs.declared.Refused.{Refused}
use Rattle.refusal.proofs.Numbers.{refused_with_at, accepted_at, number_positive}

abbrev pub accepted_by_lem : ScreenValues → Playing
accepted_by_lem v = record { number = 0; place = 0; values = v }

module _ (m : ℕ) (stream memory : List ℕ) where
  pub other_size : (length memory ≡ m → ⊥) → playing m stream memory ≡ refused_by 18 0
  unfolding playing
  other_size h = rw (ne_eqb (length memory) m h)

  pub broken : length memory ≡ m → (length stream % 8 ≡ 0 → ⊥) → playing m stream memory ≡ refused_by 19 0
  unfolding playing
  broken h g = rw (eq-eqb (length memory) m h, ne_eqb (length stream % 8) 0 g)

  pub whole : length memory ≡ m → length stream % 8 ≡ 0 → (r : Running) → r ≡ run m new_chip 0 (records_of stream) → playing m stream memory ≡ ending r (length stream / 8)
  unfolding playing
  whole h g r e = rw (eq-eqb (length memory) m h, eq-eqb (length stream % 8) 0 g) (ap (λ (x : Running). ending x (length stream / 8)) (sym e))

  -- what a refusal shows
  pub refuses : (r : Refused) → playing m stream memory ≡ refused_by (refusals.number r.refusal) r.place
      → (playing_of (Err r) ≡ playing m stream memory) × ((Err r ≡ answer_of (playing m stream memory)) × (memory ≡ played m stream memory))
  unfolding playing_by answer_of played
  refuses r e =
      let h : refusals.number r.refusal ≡ 0 → ⊥ = let p = number_positive r.refusal in λ z. omega (arith, p) in
      (sym e, (rw e (sym (refused_with_at _ r _ r.place refl refl)), rw (e, ne_eqb (refusals.number r.refusal) 0 h)))

  -- what acceptance shows
  pub accepts : (v : ScreenValues) (new : List ℕ) → new ≡ applied new_chip (records_of stream) memory → playing m stream memory ≡ accepted_by_lem v
      → (playing_of (Ok v) ≡ playing m stream memory) × ((Ok v ≡ answer_of (playing m stream memory)) × (new ≡ played m stream memory))
  unfolding playing_by answer_of played
  accepts v new q e = (sym e, (rw e (sym (accepted_at v 0 0 refl)), rw e q))

pub end_refused : (r : Running) (n : ℕ) → (r.number ≡ 0 → ⊥) → ending r n ≡ refused_by r.number r.place
unfolding ending
end_refused r n h = rw (ne_eqb r.number 0 h)

pub end_due : (r : Running) (n : ℕ) → r.number ≡ 0 → r.chip.due.any ≡ true → ending r n ≡ refused_by 23 n
unfolding ending
end_due r n h d = rw (eq-eqb r.number 0 h, d)

pub end_accepted : (r : Running) (n : ℕ) → r.number ≡ 0 → r.chip.due.any ≡ false → ending r n ≡ accepted_by_lem r.chip.screen
unfolding ending
end_accepted r n h d = rw (eq-eqb r.number 0 h, d)

-- a refusal leaves the memory
pub kept : (m : ℕ) (stream memory : List ℕ) → ((playing m stream memory).number ≡ 0 → ⊥) → played m stream memory ≡ memory
unfolding played
kept m stream memory h = rw (ne_eqb (playing m stream memory).number 0 h)
