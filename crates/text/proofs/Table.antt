-- A table of the reasons, row by row.
use Prim.Native.Nat.{ℕ, zero, suc, ◌<◌, ◌≤◌}
use Prim.Native.String.{String}
use mathlib.Core.Path.{◌≡◌}
use mathlib.Core.List.{List, [], ◌∷◌, map}
use native.Mathlib.Omega.{arith}
use denote.Bor.{Bor}
use lib.ListN.{get_or, length}
use Rattle.text.specs.Text.{letters}
use Rattle.text.specs.Refusal.{reasons, reason}
use Rattle.text.proofs.Stored.{no_reason}

-- a row of a table of texts
row : (table : List (Bor (List ℕ))) (other : Bor (List ℕ)) (xs : List String) (n : ℕ) → map (λ (b : Bor (List ℕ)). b.now) table ≡ map letters xs → n < length xs → (get_or table n other).now ≡ letters (get_or xs n "")
row [] other [] n e h = absurd (omega arith)
row [] other (x ∷ xs) n e h = cc
row (a ∷ table) other [] n e h = absurd (omega arith)
row (a ∷ table) other (x ∷ xs) zero e h = cc
row (a ∷ table) other (x ∷ xs) (suc n) e h =
    let f : map (λ (b : Bor (List ℕ)). b.now) table ≡ map letters xs = cc in
    row table other xs n f (omega arith)

-- what a number is answered by a table of the reasons: row n, and nothing above its last
pub record ReasonAt (table : List (Bor (List ℕ))) (n : ℕ) : Type 0 where
  pub row_is : (other : Bor (List ℕ)) → n ≤ 29 → (get_or table n other).now ≡ reason n
  pub none_above : 29 < n → [] ≡ reason n

pub reason_at : (table : List (Bor (List ℕ))) (n : ℕ) → map (λ (b : Bor (List ℕ)). b.now) table ≡ map letters reasons → ReasonAt table n
unfolding reason
reason_at table n e = record { row_is = λ other h. row table other reasons n e (omega arith); none_above = no_reason n }
