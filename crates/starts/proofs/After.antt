-- The chip after records, and records that are admitted one part after the other.
use Prim.Native.Nat.{ℕ, suc}
use mathlib.Core.Path.{◌≡◌, refl, ◌∙◌}
use mathlib.Core.List.{List, [], ◌∷◌, ◌++◌}
use Rattle.record.specs.declared.Record.{Record}
use Rattle.chip.specs.Admit.{chip_after}
use Rattle.chip.specs.Play.{run, applied}
use Rattle.chip.specs.declared.Chip.{Chip}
use Rattle.chip.proofs.Runs.{reached, Admitted, run_end, run_taken}
use Rattle.chip.proofs.Plays.{Plays}

unfoldable pub after_all : Chip → List Record → Chip
after_all c [] = c
after_all c (r ∷ rs) = after_all (chip_after c r) rs

pub after_append : (c : Chip) (xs ys : List Record) → after_all c (xs ++ ys) ≡ after_all (after_all c xs) ys
unfolding after_all
after_append c [] ys = refl
after_append c (r ∷ xs) ys = after_append (chip_after c r) xs ys

module _ (m : ℕ) where
  pub admitted_split : (c : Chip) (xs ys : List Record) → Admitted m c (xs ++ ys) → Admitted m c xs × Admitted m (after_all c xs) ys
  unfolding Admitted after_all
  admitted_split c [] ys a = (tt, a)
  admitted_split c (r ∷ xs) ys a = let p = admitted_split (chip_after c r) xs ys a.1 in ((a.0, p.0), p.1)

  pub admitted_join : (c : Chip) (xs ys : List Record) → Admitted m c xs → Admitted m (after_all c xs) ys → Admitted m c (xs ++ ys)
  unfolding Admitted after_all
  admitted_join c [] ys a b = b
  admitted_join c (r ∷ xs) ys a b = (a.0, admitted_join (chip_after c r) xs ys a.1 b)

  pub run_after : (c : Chip) (i : ℕ) (rs : List Record) → Admitted m c rs → run m c i rs ≡ reached (after_all c rs)
  unfolding Admitted after_all
  run_after c i [] a = run_end m c i
  run_after c i (r ∷ rs) a = run_taken m c i r rs a.0 ∙ run_after (chip_after c r) (suc i) rs a.1

  pub plays_all : (c : Chip) (rs : List Record) (old : List ℕ) → Admitted m c rs → Plays m c rs old (after_all c rs) (applied c rs old)
  plays_all c rs old a = record { runs = λ i. run_after c i rs a; draws = refl }
