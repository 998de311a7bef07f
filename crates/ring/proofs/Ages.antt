-- Ages, steps and slots: ages below 512 have slots of their own, and an hour keeps its slot while it grows older.
use Prim.Native.Nat.{ℕ, zero, suc, ◌+◌, ◌-◌, ◌%◌, ◌≤◌, ◌<◌}
use native.Mathlib.Nat.{zero-add}
use native.Mathlib.Omega.{arith}
use mathlib.Core.Path.{◌≡◌, refl, sym, ap, ◌∙◌}
use mathlib.Core.List.{List}
use mathlib.Core.Logic.{◌⊎◌, inl, inr, ⊎_elim}
use lib.ListN.{length, get_or, set}
use lib.Seq.{get_or-set_same, get_or-set_other}
use Rattle.record.proofs.Choice.{below_or_not}
use Rattle.ring.specs.Samples.{steps_to}
use Rattle.ring.specs.Kept.{slot_of, blanked}
use Rattle.ring.proofs.Stored.{length_blanked}

pub no_steps : (n : ℕ) → steps_to n n ≡ 0
no_steps n = omega arith

pub slot_below : (n age : ℕ) → slot_of n age < 512
slot_below n age = omega arith

pub slots_differ : (n a b : ℕ) → a < b → b ≤ 511 → slot_of n a ≡ slot_of n b → ⊥
slots_differ n a b h l e = omega arith

-- the steps are what is between the numbers, or that with the numbers come round once
abbrev Steps : ℕ → ℕ → ℕ → Type 0
Steps n m d = ((n ≤ m) × (n + d ≡ m)) ⊎ ((m < n) × (n + d ≡ m + 65536))

pub steps_are : (n m : ℕ) → n < 65536 → m < 65536 → Steps n m (steps_to n m)
steps_are n m h l = ⊎_elim (λ g. inr (g, omega arith)) (λ g. inl (g, omega arith)) (below_or_not m n)

round : (x : ℕ) → x % 512 ≡ (x + 65536) % 512
round x = omega arith

moved : (n m a d : ℕ) → d ≤ a → a ≤ 511 → Steps n m d → slot_of m a ≡ slot_of n (a - d)
moved n m a d h l (inl s) = let e : m + 65536 - a ≡ n + 65536 - (a - d) = omega arith in ap (λ (x : ℕ). x % 512) e
moved n m a d h l (inr s) =
    let e : m + 65536 - a + 65536 ≡ n + 65536 - (a - d) = omega arith in round (m + 65536 - a) ∙ ap (λ (x : ℕ). x % 512) e

-- the steps over a number between
over : (k n m c d e : ℕ) → d < 512 → c ≤ 511 → k < 65536 → n < 65536 → m < 65536 → Steps n m d → Steps k n c → Steps k m e → e ≡ c + d
over k n m c d e dl cl kl nl ml (inl x) (inl y) (inl z) = omega arith
over k n m c d e dl cl kl nl ml (inl x) (inl y) (inr z) = omega arith
over k n m c d e dl cl kl nl ml (inl x) (inr y) (inl z) = omega arith
over k n m c d e dl cl kl nl ml (inl x) (inr y) (inr z) = omega arith
over k n m c d e dl cl kl nl ml (inr x) (inl y) (inl z) = omega arith
over k n m c d e dl cl kl nl ml (inr x) (inl y) (inr z) = omega arith
over k n m c d e dl cl kl nl ml (inr x) (inr y) (inl z) = omega arith
over k n m c d e dl cl kl nl ml (inr x) (inr y) (inr z) = omega arith

-- the steps to a number between
upto : (k n m c d e : ℕ) → d ≤ e → e ≤ 511 → c < 65536 → k < 65536 → n < 65536 → m < 65536 → Steps n m d → Steps k n c → Steps k m e → c ≡ e - d
upto k n m c d e dl el cl kl nl ml (inl x) (inl y) (inl z) = omega arith
upto k n m c d e dl el cl kl nl ml (inl x) (inl y) (inr z) = omega arith
upto k n m c d e dl el cl kl nl ml (inl x) (inr y) (inl z) = omega arith
upto k n m c d e dl el cl kl nl ml (inl x) (inr y) (inr z) = omega arith
upto k n m c d e dl el cl kl nl ml (inr x) (inl y) (inl z) = omega arith
upto k n m c d e dl el cl kl nl ml (inr x) (inl y) (inr z) = omega arith
upto k n m c d e dl el cl kl nl ml (inr x) (inr y) (inl z) = omega arith
upto k n m c d e dl el cl kl nl ml (inr x) (inr y) (inr z) = omega arith

steps_below : (n m : ℕ) → steps_to n m < 65536
steps_below n m = omega arith

grown : (a c d e : ℕ) → d ≤ a → c ≡ a - d → e ≡ c + d → e ≡ a
grown a c d e h p q = omega arith

le_lt : {d a : ℕ} → d ≤ a → a ≤ 511 → d < 512
le_lt h g = omega arith

le_of : (c a d : ℕ) → c ≡ a - d → a ≤ 511 → c ≤ 511
le_of c a d e g = omega arith

module _ (n m a : ℕ) (low : n < 65536) (low' : m < 65536) (older : steps_to n m ≤ a) (young : a ≤ 511) where
  pub slot_moved : slot_of m a ≡ slot_of n (a - steps_to n m)
  slot_moved = moved n m a (steps_to n m) older young (steps_are n m low low')

  pub age_grown : (number : ℕ) → number < 65536 → steps_to number n ≡ a - steps_to n m → steps_to number m ≡ a
  age_grown number l e =
      grown a (steps_to number n) (steps_to n m) (steps_to number m) older e
      (over number n m (steps_to number n) (steps_to n m) (steps_to number m) (le_lt older young) (le_of (steps_to number n) a (steps_to n m) e young) l low low'
      (steps_are n m low low') (steps_are number n l low) (steps_are number m l low'))

  pub age_before : (number : ℕ) → number < 65536 → steps_to number m ≡ a → steps_to number n ≡ a - steps_to n m
  age_before number l e =
      upto number n m (steps_to number n) (steps_to n m) (steps_to number m) (rw e older) (rw e young) (steps_below number n) l low low'
      (steps_are n m low low') (steps_are number n l low) (steps_are number m l low')
      ∙ ap (λ (x : ℕ). x - steps_to n m) e

-- a number of which an hour that was made blank is 0
pub blanked_in : (l : List ℕ) (n k age : ℕ) → length l ≡ 512 → 1 ≤ age → age ≤ k → k ≤ 511 → get_or (blanked 0 l n k) (slot_of n age) 0 ≡ 0
unfolding blanked
blanked_in l n zero age m h g b = absurd (omega arith)
blanked_in l n (suc k) age m h g b =
    rw (zero-add (slot_of n (suc k)))
    (⊎_elim
    (λ (lt : age < suc k).
    get_or-set_other (blanked 0 l n k) (slot_of n (suc k)) (slot_of n age) 0 0 (slots_differ n age (suc k) lt b)
    ∙ blanked_in l n k age m h (omega arith) (omega arith))
    (λ (ge : suc k ≤ age).
    let e : age ≡ suc k = omega arith in
    ap (λ (x : ℕ). get_or (set (blanked 0 l n k) (slot_of n (suc k)) 0) (slot_of n x) 0) e
    ∙ get_or-set_same (blanked 0 l n k) (slot_of n (suc k)) 0 0 (rw (length_blanked 0 l n k, m) (slot_below n (suc k))))
    (below_or_not age (suc k)))

-- an older hour is kept
pub blanked_out : (l : List ℕ) (n k age : ℕ) → k < age → age ≤ 511 → get_or (blanked 0 l n k) (slot_of n age) 0 ≡ get_or l (slot_of n age) 0
unfolding blanked
blanked_out l n zero age h b = refl
blanked_out l n (suc k) age h b =
    rw (zero-add (slot_of n (suc k)))
    (get_or-set_other (blanked 0 l n k) (slot_of n (suc k)) (slot_of n age) 0 0 (λ e. slots_differ n (suc k) age h b (sym e))
    ∙ blanked_out l n k age (omega arith) b)
