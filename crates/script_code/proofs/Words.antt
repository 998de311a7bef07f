-- Words stored from one place to another, as far as there are words: one fill of a part.
use Prim.Native.Nat.{ℕ, zero, suc, ◌+◌, ◌-◌, ◌<◌, ◌≤◌}
use native.Mathlib.Omega.{arith}
use mathlib.Core.Path.{◌≡◌, refl, sym, ap, ◌∙◌}
use mathlib.Core.Logic.{⊎_elim}
use mathlib.Core.List.{List}
use lib.ListN.{length, set, replicate, length-set, length-take, length-drop}
use lib.Seq.{sets, set_out}
use borrow.Rule.Slice.PartMut.{put_mid, mid_of}
use Rattle.std.proofs.Common.{min}
use Rattle.std.proofs.lemmas.List.{length-replicate}
use Rattle.record.proofs.Stores.{part_put}
use Rattle.record.proofs.Choice.{below_or_not}
use Rattle.script.proofs.Laws.{words_end, words_past}

-- what goes past the end is not stored
clipped : (l : List ℕ) (i n m v : ℕ) → m ≤ n → length l ≤ i + m → sets l i (replicate n v) ≡ sets l i (replicate m v)
clipped l i zero zero v h g = refl
clipped l i zero (suc m) v h g = absurd (omega arith)
clipped l i (suc n) zero v h g = ap (λ (x : List ℕ). sets x (suc i) (replicate n v)) (set_out l i v (omega arith)) ∙ clipped l (suc i) n zero v (omega arith) (omega arith)
clipped l i (suc n) (suc m) v h g = clipped (set l i v) (suc i) n m v (omega arith) (omega (arith, length-set l i v))

module _ (l : List ℕ) (first last end v : ℕ) (cut : end ≡ min (length l) (last + 1)) where
  pub words_filled : (new : List ℕ) → first < end → new ≡ replicate (length (mid_of first (end - first) l)) v
      → put_mid first (end - first) l new ≡ sets l first (replicate (suc last - first) v)
  words_filled new h e =
      let n : length (mid_of first (end - first) l) ≡ end - first = simp (length-take, length-drop) (omega arith) in
      ap (λ (x : List ℕ). put_mid first (end - first) l x) (e ∙ ap (λ (k : ℕ). replicate k v) n)
      ∙ part_put l first end (replicate (end - first) v) (omega arith) (omega arith) (length-replicate (end - first) v)
      ∙ ⊎_elim
      (λ f. sym (clipped l first (suc last - first) (end - first) v (omega arith) (omega arith)))
      (λ f. let k : end - first ≡ suc last - first = omega arith in ap (λ (x : ℕ). sets l first (replicate x v)) k)
      (below_or_not (length l) (suc last))

  pub no_words_filled : end ≤ first → l ≡ sets l first (replicate (suc last - first) v)
  no_words_filled h =
      ⊎_elim
      (λ f. sym (words_past l first last v (omega arith)))
      (λ f. sym (words_end l first last v (omega arith)))
      (below_or_not (length l) (suc last))
