-- Records that are played one after the other: none is refused, and what chip and memory are afterwards.
use Prim.Native.Nat.{ℕ, suc, ◌+◌, ◌/◌, ◌%◌}
use mathlib.Core.Path.{◌≡◌, refl, sym, ap, ◌∙◌}
use mathlib.Core.List.{List, [], ◌∷◌, ◌++◌}
use mathlib.Core.Bool.{false}
use lib.ListN.{length}
use Rattle.record.specs.Record.{records_of}
use Rattle.record.specs.declared.Record.{Record}
use Rattle.chip.specs.Admit.{refusal, chip_after, effect}
use Rattle.chip.specs.Play.{new_chip, run, applied, ending, playing, played}
use Rattle.chip.specs.declared.Chip.{Chip}
use Rattle.chip.specs.Play.{Running}
use Rattle.chip.proofs.Runs.{reached, run_end, run_taken, run_append, applied_end, applied_step, applied_append}
use Rattle.chip.proofs.Answers.{accepted_by_lem, whole, end_accepted, accepts}

-- in a memory of m bytes, rs are not refused from chip c on; they end at chip c', and make new of old
pub record Plays (m : ℕ) (c : Chip) (rs : List Record) (old : List ℕ) (c' : Chip) (new : List ℕ) : Type 0 where
  pub runs : (i : ℕ) → run m c i rs ≡ reached c'
  pub draws : applied c rs old ≡ new

pub plays_none : (m : ℕ) (c : Chip) (old : List ℕ) → Plays m c [] old c old
plays_none m c old = record { runs = λ i. run_end m c i; draws = applied_end c old }

pub plays_cons : {m : ℕ} {c c' : Chip} {r : Record} {rs : List Record} {old new : List ℕ} → refusal m c r ≡ 0
    → Plays m (chip_after c r) rs (effect c r old) c' new → Plays m c (r ∷ rs) old c' new
plays_cons {m} {c} {c'} {r} {rs} {old} {new} e p =
    record { runs = λ i. run_taken m c i r rs e ∙ p.runs (suc i); draws = applied_step c r rs old ∙ p.draws }

pub plays_one : {m : ℕ} {c : Chip} {r : Record} {old : List ℕ} → refusal m c r ≡ 0 → Plays m c (r ∷ []) old (chip_after c r) (effect c r old)
plays_one {m} {c} {r} {old} e = plays_cons e (plays_none m (chip_after c r) (effect c r old))

pub plays_append : {m : ℕ} {c c' c'' : Chip} {xs ys : List Record} {old mid new : List ℕ} → Plays m c xs old c' mid → Plays m c' ys mid c'' new
    → Plays m c (xs ++ ys) old c'' new
plays_append {m} {c} {c'} {c''} {xs} {ys} {old} {mid} {new} p q =
    record {
      runs = λ i. run_append m c i xs ys (ap (λ (x : Running). x.number) (p.runs i))
          ∙ ap (λ (x : Running). run m x.chip (i + length xs) ys) (p.runs i) ∙ q.runs (i + length xs);
      draws = applied_append m c 0 xs ys old (ap (λ (x : Running). x.number) (p.runs 0))
          ∙ (λ t. applied (p.runs 0 t).chip ys (p.draws t)) ∙ q.draws;
    }

-- the same from an equal chip and memory
pub plays_from : {m : ℕ} {c c₁ c' : Chip} {rs : List Record} {old old₁ new : List ℕ} → c ≡ c₁ → old ≡ old₁ → Plays m c₁ rs old₁ c' new → Plays m c rs old c' new
plays_from {m} {c} {c₁} {c'} {rs} {old} {old₁} {new} e f p =
    record { runs = λ i. ap (λ (x : Chip). run m x i rs) e ∙ p.runs i; draws = (λ t. applied (e t) rs (f t)) ∙ p.draws }

-- a whole stream: it is accepted, and gives the screen values and the memory at its end
module _ (m : ℕ) (stream memory : List ℕ) {new : List ℕ} {c : Chip} (sized : length memory ≡ m) (cut : length stream % 8 ≡ 0)
    (p : Plays m new_chip (records_of stream) memory c new) (idle : c.due.any ≡ false) where
  pub plays_accepted : playing m stream memory ≡ accepted_by_lem c.screen
  plays_accepted =
      whole m stream memory sized cut (run m new_chip 0 (records_of stream)) refl
      ∙ ap (λ (x : Running). ending x (length stream / 8)) (p.runs 0) ∙ end_accepted (reached c) (length stream / 8) refl idle

  pub plays_played : played m stream memory ≡ new
  plays_played = sym (accepts m stream memory c.screen (applied new_chip (records_of stream) memory) refl plays_accepted).1.1 ∙ p.draws

-- the new chip waits for no data
pub new_idle : new_chip.due.any ≡ false
unfolding new_chip
new_idle = refl
