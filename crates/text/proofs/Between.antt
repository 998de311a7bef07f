-- Texts one behind the other in a list: each is found between its start and the next.
use Prim.Native.Nat.{ℕ, zero, suc, ◌+◌, ◌-◌, ◌<◌, ◌≤◌}
use Prim.Native.String.{String}
use mathlib.Core.Path.{◌≡◌, refl, sym, ap, ◌∙◌}
use mathlib.Core.List.{List, [], ◌∷◌, ◌++◌}
use native.Mathlib.Nat.{add-sub_cancel_left}
use native.Mathlib.Numerals.{add-one}
use native.Mathlib.Omega.{arith}
use lib.ListN.{length, get_or, take, drop, length-append, length-drop, get_or-eq_default}
use lib.Seq.{drop-drop, take-append_seam, drop-append_seam}
use Rattle.text.specs.Text.{letters}
use Rattle.text.specs.Refusal.{reasons, reason}

-- a text and a line end
abbrev line : String → List ℕ
line x = letters x ++ letters "\n"

-- the texts, and where each begins if the first begins at a place
abbrev together : List String → List ℕ
together [] = []
together (x ∷ xs) = line x ++ together xs

abbrev starts : ℕ → List String → List ℕ
starts at [] = at ∷ []
starts at (x ∷ xs) = at ∷ starts (at + length (line x)) xs

first_start : (at : ℕ) (xs : List String) → get_or (starts at xs) 0 0 ≡ at
first_start at [] = refl
first_start at (x ∷ xs) = refl

-- a text between two places of a list
pub record Between (all : List ℕ) (from end : ℕ) (text : List ℕ) : Type 0 where
  pub up : from ≤ end
  pub within : end ≤ length all
  pub is : take (end - from) (drop from all) ≡ text

-- the list from a text on: the text, and what stands behind it
record Rest (all : List ℕ) (at : ℕ) (x : String) (xs : List String) : Type 0 where
  room : at + length (line x) ≤ length all
  rest : drop (at + length (line x)) all ≡ together xs

rest_of : (all : List ℕ) (at : ℕ) (x : String) (xs : List String) → at ≤ length all → drop at all ≡ together (x ∷ xs) → Rest all at x xs
rest_of all at x xs h e =
    let size : length all - at ≡ length (line x) + length (together xs) = sym (length-drop at all) ∙ ap (λ (s : List ℕ). length s) e ∙ length-append (line x) (together xs) in
    record {
      room = omega arith;
      rest = sym (drop-drop (length (line x)) at all) ∙ ap (λ (s : List ℕ). drop (length (line x)) s) e ∙ drop-append_seam (line x) (together xs);
    }

each : (all : List ℕ) (at : ℕ) (xs : List String) (i : ℕ) → at ≤ length all → drop at all ≡ together xs → i < length xs → Between all (get_or (starts at xs) i 0) (get_or (starts at xs) (suc i) 0) (line (get_or xs i ""))
each all at [] i h e l = absurd (omega arith)
each all at (x ∷ xs) zero h e l =
    rw (first_start (at + length (line x)) xs)
    (record {
      up = omega arith;
      within = (rest_of all at x xs h e).room;
      is = rw (add-sub_cancel_left, e) (take-append_seam (line x) (together xs));
    })
each all at (x ∷ xs) (suc i) h e l =
    let f = rest_of all at x xs h e in
    each all (at + length (line x)) xs i f.room f.rest (omega arith)

pub reason_between : (n : ℕ) → n ≤ 29 → Between (together reasons) (get_or (starts 0 reasons) n 0) (get_or (starts 0 reasons) (n + 1) 0) (reason n ++ letters "\n")
unfolding reason
reason_between n h = rw add-one (each (together reasons) 0 reasons n (omega arith) refl (omega arith))

pub no_reason : (n : ℕ) → 29 < n → letters "\n" ≡ reason n ++ letters "\n"
unfolding reason
no_reason n h = ap line (sym (get_or-eq_default reasons "" {n = n} (omega arith)))
