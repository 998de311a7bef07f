-- A list of commands without a refusal: each is fine, with the host words that are left to it.
use Prim.Native.Nat.{ℕ, suc, ◌+◌, ◌-◌, ◌<◌, ◌≤◌}
use mathlib.Core.Path.{◌≡◌, refl}
use mathlib.Core.List.{List, [], ◌∷◌}
use mathlib.Core.Bool.{Bool, true, false, cond}
use native.Mathlib.Numerals.{add-one}
use native.Mathlib.Omega.{arith}
use lib.ListN.{length}
use lib.Dec.{eqb}
use borrow.Author.Tests.{eqb-true, eqb-false, eq-eqb, ne_eqb}
use Rattle.record.specs.Checks.{Refusal}
use Rattle.screen.specs.declared.Screen.{Screen}
use Rattle.command.specs.Command.{command_of, names_command, words_taken, refusal}
use Rattle.command.specs.Task.{first_refusal, all_words}
use Rattle.command.proofs.Fine.{Fine, fine}
use Rattle.command.proofs.Numbers.{refusal_number}
use Rattle.command.proofs.Answer.{command_listed}
use Rattle.refusal.specs.Number as refusals
use Rattle.refusal.proofs.Numbers.{first_listed}

unfoldable pub AllFine : ℕ → Screen → ℕ → List (List ℕ) → Type 0
AllFine m s left [] = Unit {0}
AllFine m s left (b ∷ bs) = Fine m s left (command_of b) × AllFine m s (left - words_taken s (command_of b)) bs

-- one of so many commands is refused, by a number that names it
abbrev pub RefusesOne : ℕ → Refusal → Type 0
RefusesOne count r = (names_command r.number ≡ true) × (r.place < count)

module _ (m : ℕ) (s : Screen) where
  -- an accepted command moves the search on
  pub refusal_go : (i left : ℕ) (b : List ℕ) (bs : List (List ℕ)) → refusal m s left b ≡ 0 → first_refusal m s i left (b ∷ bs) ≡ first_refusal m s (i + 1) (left - words_taken s (command_of b)) bs
  unfolding first_refusal
  refusal_go i left b bs e = rw (eq-eqb (refusal m s left b) 0 e, add-one)

  -- a refused one ends it
  pub refusal_stop : (i left n : ℕ) (b : List ℕ) (bs : List (List ℕ)) → refusal m s left b ≡ n → 0 < n → first_refusal m s i left (b ∷ bs) ≡ record { number = n; place = i }
  unfolding first_refusal
  refusal_stop i left n b bs e h = rw (e, ne_eqb n 0 (λ z. omega arith))

  -- no refusal: the first command has none, and the others have none
  first_accepted : (i left : ℕ) (b : List ℕ) (bs : List (List ℕ)) → (first_refusal m s i left (b ∷ bs)).number ≡ 0 → (refusal m s left b ≡ 0) × ((first_refusal m s (suc i) (left - words_taken s (command_of b)) bs).number ≡ 0)
  unfolding first_refusal
  first_accepted i left b bs e = chosen (eqb (refusal m s left b) 0) refl e
    where
      chosen : (t : Bool) → eqb (refusal m s left b) 0 ≡ t → (cond t (first_refusal m s (suc i) (left - words_taken s (command_of b)) bs) (record { number = refusal m s left b; place = i })).number ≡ 0 → (refusal m s left b ≡ 0) × ((first_refusal m s (suc i) (left - words_taken s (command_of b)) bs).number ≡ 0)
      chosen true h f = (eqb-true (refusal m s left b) 0 h, f)
      chosen false h f = absurd (eqb-false (refusal m s left b) 0 h f)

  pub all_fine : (i left : ℕ) (commands : List (List ℕ)) → (first_refusal m s i left commands).number ≡ 0 → AllFine m s left commands
  unfolding AllFine
  all_fine i left [] e = tt
  all_fine i left (b ∷ bs) e =
      let p = first_accepted i left b bs e in
      (fine m s left b p.0, all_fine (suc i) (left - words_taken s (command_of b)) bs p.1)

  -- the words suffice
  pub words_suffice : (left : ℕ) (commands : List (List ℕ)) → AllFine m s left commands → all_words s commands ≤ left
  unfolding AllFine all_words
  words_suffice left [] a = omega arith
  words_suffice left (b ∷ bs) a = omega (arith, a.0.words, words_suffice (left - words_taken s (command_of b)) bs a.1)

  -- a refused command is one of the list's
  pub refusal_place : (i left : ℕ) (commands : List (List ℕ)) → 0 < (first_refusal m s i left commands).number → RefusesOne (i + length commands) (first_refusal m s i left commands)
  unfolding first_refusal
  refusal_place i left [] h = absurd (omega arith)
  refusal_place i left (b ∷ bs) h = chosen (first_refusal m s (suc i) (left - words_taken s (command_of b)) bs) (eqb (refusal m s left b) 0) (refusal_place (suc i) (left - words_taken s (command_of b)) bs) h
    where
      chosen : (r : Refusal) (t : Bool) → (0 < r.number → RefusesOne (suc i + length bs) r) → 0 < (cond t r (record { number = refusal m s left b; place = i })).number → RefusesOne (i + suc (length bs)) (cond t r (record { number = refusal m s left b; place = i }))
      chosen r true g f = let k = g f in (k.0, omega (arith, k.1))
      chosen r false g f = (refusal_number m s left b f, omega arith)

  -- its number is a refusal's
  listed_alone : (left : ℕ) (b : List ℕ) → 0 < refusal m s left b → refusals.number (refusals.refusal (refusal m s left b)) ≡ refusal m s left b
  unfolding refusal
  listed_alone left b h = first_listed _ (command_listed m s left b (command_of b)) h

  pub refusal_listed : (i left : ℕ) (commands : List (List ℕ)) → 0 < (first_refusal m s i left commands).number → refusals.number (refusals.refusal (first_refusal m s i left commands).number) ≡ (first_refusal m s i left commands).number
  unfolding first_refusal
  refusal_listed i left [] h = absurd (omega arith)
  refusal_listed i left (b ∷ bs) h = chosen (first_refusal m s (suc i) (left - words_taken s (command_of b)) bs) (eqb (refusal m s left b) 0) (refusal_listed (suc i) (left - words_taken s (command_of b)) bs) h
    where
      chosen : (r : Refusal) (t : Bool) → (0 < r.number → refusals.number (refusals.refusal r.number) ≡ r.number) → 0 < (cond t r (record { number = refusal m s left b; place = i })).number
          → refusals.number (refusals.refusal (cond t r (record { number = refusal m s left b; place = i })).number) ≡ (cond t r (record { number = refusal m s left b; place = i })).number
      chosen r true g f = g f
      chosen r false g f = listed_alone left b f
