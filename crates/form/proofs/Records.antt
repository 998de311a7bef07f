-- One record in a form: its bytes, and the record that it was.
use Prim.Native.Nat.{ℕ, zero, suc, ◌-◌, ◌≤◌}
use mathlib.Core.Path.{◌≡◌, refl, sym, ap, ◌∙◌}
use mathlib.Core.List.{List, [], ◌∷◌, ◌++◌}
use mathlib.Core.Bool.{Bool, true, ◌&&◌}
use native.Mathlib.Omega.{arith}
use lib.Dec.{eqb}
use lib.ListN.{length, take, drop, replicate, take-append-drop, length-drop}
use lib.Seq.{length-take-le, take_all, take_at, drop_at}
use Rattle.record.specs.Bytes.{byte_at, all_zero}
use Rattle.command.specs.Task.{short_form}
use Rattle.command.proofs.Bytes.{zeros_are}
use Rattle.form.specs.Turn.{record_in}

-- ---- zeros
pub zeros_zero : (n : ℕ) → all_zero (replicate n 0) ≡ true
unfolding all_zero
zeros_zero zero = refl
zeros_zero (suc n) = zeros_zero n

zeros_read : (n k : ℕ) → byte_at (replicate n 0) k ≡ 0
zeros_read zero k = refl
zeros_read (suc n) zero = refl
zeros_read (suc n) (suc k) = zeros_read n k

-- zeros behind a list change no byte that is read, and not whether all are zero
pub read_behind : (b : List ℕ) (n k : ℕ) → byte_at (b ++ replicate n 0) k ≡ byte_at b k
read_behind [] n k = zeros_read n k
read_behind (x ∷ b) n zero = refl
read_behind (x ∷ b) n (suc k) = read_behind b n k

pub zero_behind : (b : List ℕ) (n : ℕ) → all_zero (b ++ replicate n 0) ≡ all_zero b
unfolding all_zero
zero_behind [] n = zeros_zero n
zero_behind (x ∷ b) n = ap (λ (t : Bool). eqb x 0 && t) (zero_behind b n)

-- ---- a record in a form
module _ (form : ℕ) (b : List ℕ) where
  -- of a record of 32 bytes: zeros behind it
  pub record_is : length b ≡ short_form → record_in form b ≡ b ++ replicate (form - short_form) 0
  record_is e = ap (λ (l : List ℕ). l ++ replicate (form - short_form) 0) (take_all short_form b (omega (arith, e)))

  -- its bytes past 31 are zero
  pub record_ends : short_form ≤ length b → drop short_form (record_in form b) ≡ replicate (form - short_form) 0
  record_ends h = drop_at (take short_form b) (replicate (form - short_form) 0) short_form (length-take-le short_form b h)

  -- a record of so many bytes that are zero past 31 is in that form already
  pub record_stays : length b ≡ form → all_zero (drop short_form b) ≡ true → record_in form b ≡ b
  record_stays e z =
      ap (λ (l : List ℕ). take short_form b ++ l) (sym (zeros_are (drop short_form b) z ∙ ap (λ (n : ℕ). replicate n 0) (length-drop short_form b ∙ ap (λ (n : ℕ). n - short_form) e)))
      ∙ take-append-drop short_form b

  -- what another form made of it in between does not matter
  pub record_again : (other : ℕ) → short_form ≤ length b → record_in form (record_in other b) ≡ record_in form b
  record_again other h =
      ap (λ (l : List ℕ). l ++ replicate (form - short_form) 0) (take_at (take short_form b) (replicate (other - short_form) 0) short_form (length-take-le short_form b h))
