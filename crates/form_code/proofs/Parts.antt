-- A part of a list, copied or made 0.
use Rattle.std.proofs.Common.{◌≡◌, ℕ, ◌-◌, ◌≤◌, List, length, replicate, ap, ◌∙◌, arith, length-take, length-drop}
use Rattle.std.proofs.lemmas.List.{length-replicate}
use borrow.Rule.Slice.PartMut.{put_mid, mid_of}
use lib.Seq.{sets}
use Rattle.record.proofs.Stores.{part_put}

module _ (l new : List ℕ) (a b : ℕ) (from : a ≤ b) (to : b ≤ length l) where
  pub part_copied : (v : List ℕ) → length v ≡ b - a → new ≡ v → put_mid a (b - a) l new ≡ sets l a v
  part_copied v n e = ap (λ (x : List ℕ). put_mid a (b - a) l x) e ∙ part_put l a b v from to n

  pub part_zeroed : (n : ℕ) → n ≡ b - a → new ≡ replicate (length (mid_of a (b - a) l)) 0 → put_mid a (b - a) l new ≡ sets l a (replicate n 0)
  part_zeroed n m e =
      let k : length (mid_of a (b - a) l) ≡ n = simp (length-take, length-drop) (omega arith) in
      part_copied (replicate n 0) (length-replicate n 0 ∙ m) (e ∙ ap (λ (x : ℕ). replicate x 0) k)
