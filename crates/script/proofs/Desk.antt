-- What is compiled and played, as the code takes it.
use Prim.Native.Nat.{ℕ, ◌+◌, ◌-◌, ◌*◌, ◌%◌, ◌≤◌, min}
use mathlib.Core.Path.{◌≡◌, sym, ap, ◌∙◌}
use mathlib.Core.List.{List}
use mathlib.Core.Logic.{⊎_elim}
use native.Mathlib.Nat.{add-sub_cancel_left, mul-le-mul}
use native.Mathlib.Omega.{arith}
use lib.ListN.{length, take, drop}
use lib.Seq.{take_all, length-take-le}
use Rattle.record.proofs.Choice.{below_or_not}
use Rattle.script.specs.Script.{number_at}
use Rattle.script.specs.Steps.{form_on, list_on}

-- as many as there are
pub taken : (l : List ℕ) (m n k : ℕ) → m ≡ min n (length l) → n ≡ k → take m l ≡ take k l
taken l m n k e f =
    ⊎_elim (λ h. let g : m ≡ k = omega arith in ap (λ (x : ℕ). take x l) g) (λ h. take_all m l (omega arith) ∙ sym (take_all k l (omega arith)))
    (below_or_not n (length l))

pub length_taken : (l : List ℕ) (m n : ℕ) → m ≡ min n (length l) → m ≡ length (take m l)
length_taken l m n e = sym (length-take-le m l (omega arith))

pub list_on_lem : (desk : List ℕ) (form n : ℕ) → form ≡ form_on desk → n ≡ number_at desk 80 → take (32 + form * (n % 2) - 32) (drop 32 desk) ≡ list_on desk
list_on_lem desk form n e f = rw (e, f, add-sub_cancel_left)

-- one record at most
pub one_record : (form n : ℕ) → form ≤ 48 → form * (n % 2) ≤ 48
one_record form n h = mul-le-mul {n₂ = 48} {m₂ = 1} h (omega arith)

-- an answer over a form and parts is the one over an equal form and equal parts
pub at_parts : {A : Type 0} (f : ℕ → List ℕ → List ℕ → A) {r : A} {n k : ℕ} {l m u v : List ℕ} → r ≡ f n l u → n ≡ k → l ≡ m → u ≡ v → r ≡ f k m v
at_parts f e h p q = e ∙ (λ t. f (h t) (p t) (q t))
