-- Parts of a ring's numbers: one made 0, and the heights that a C caller's ring ends with.
use Rattle.std.proofs.Common.{◌≡◌, ℕ, ◌-◌, ◌≤◌, List, length, replicate, take, drop, ap, ◌∙◌, arith, length-take, length-drop}
use Rattle.std.proofs.lemmas.List.{length-replicate, take_rest}
use borrow.Rule.Slice.PartMut.{put_mid, mid_of}
use lib.Seq.{sets}
use Rattle.record.proofs.Stores.{part_put}
use Rattle.ring.specs.declared.Ring.{Ring}
use Rattle.ring.specs.Kept.{ring_in}

pub part_zeroed : (l new : List ℕ) (a b : ℕ) → a ≤ b → b ≤ length l → new ≡ replicate (length (mid_of a (b - a) l)) 0
    → put_mid a (b - a) l new ≡ sets l a (replicate (b - a) 0)
part_zeroed l new a b h g e =
    let n : length (mid_of a (b - a) l) ≡ b - a = simp (length-take, length-drop) (omega arith) in
    ap (λ (x : List ℕ). put_mid a (b - a) l x) (e ∙ ap (λ (k : ℕ). replicate k 0) n)
    ∙ part_put l a b (replicate (b - a) 0) h g (length-replicate (b - a) 0)

-- a C caller's ring by its parts
pub ring_by_parts : (cells : List ℕ) → length cells ≡ 1026
    → ◌≡◌ {A = Ring}
    (record { any = (ring_in cells).any; newest = (ring_in cells).newest; numbers = take 512 (drop 2 cells); heights = take 512 (drop 514 cells) })
    (ring_in cells)
ring_by_parts cells n =
    let f : List ℕ → Ring = λ (h : List ℕ). record { any = (ring_in cells).any; newest = (ring_in cells).newest; numbers = take 512 (drop 2 cells); heights = h } in
    ap f (rw n at (take_rest cells 514))
