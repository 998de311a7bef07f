-- The ring that a C caller holds, after samples.
use Prim.Native.Nat.{ℕ, ◌+◌, ◌-◌}
use mathlib.Core.Path.{◌≡◌, refl, ap, subst, ◌∙◌}
use mathlib.Core.Bool.{Bool, true, false}
use mathlib.Core.List.{List, [], ◌∷◌, ◌++◌}
use lib.ListN.{length, take, drop, length-set}
use lib.Seq.{take-append_seam, drop-append_seam}
use Rattle.ring.specs.Samples.{Sample}
use Rattle.ring.specs.Kept.{empty_ring, slot_of, takes, hours_on, blanked, with_sample, taking, ring_after, ring_in, cells_of}
use Rattle.ring.specs.Claims.{cells_after, CallerHolds}
use Rattle.ring.specs.declared.Ring.{Ring}
use Rattle.ring.proofs.Stored.{length_blanked, taken_ring, refused_ring}

-- a ring of two arrays of 512
record Sized (r : Ring) : Type 0 where
  numbers : length r.numbers ≡ 512
  heights : length r.heights ≡ 512

-- its cells are it
again : (r : Ring) → Sized r → ring_in (cells_of r) ≡ r
again r h =
    let front : take 512 (r.numbers ++ r.heights) ≡ r.numbers = subst (λ (n : ℕ). take n (r.numbers ++ r.heights) ≡ r.numbers) h.numbers (take-append_seam r.numbers r.heights) in
    let back : drop 512 (r.numbers ++ r.heights) ≡ r.heights = subst (λ (n : ℕ). drop n (r.numbers ++ r.heights) ≡ r.heights) h.numbers (drop-append_seam r.numbers r.heights) in
    λ t. record { any = r.any; newest = r.newest; numbers = front t; heights = back t }

with_sized : (r : Ring) (s k : ℕ) → Sized r → Sized (with_sample r s k)
unfolding with_sample
with_sized r s k h =
    record {
      numbers = length-set r.numbers (slot_of s 0) s ∙ h.numbers;
      heights =
          length-set (blanked 0 r.heights s (hours_on r.any r.newest s - 1)) (slot_of s 0) (k + 1)
          ∙ length_blanked 0 r.heights s (hours_on r.any r.newest s - 1)
          ∙ h.heights;
    }

-- a sample keeps the sizes, taken or not
taken_sized : (b : Bool) (r : Ring) (s k : ℕ) → takes r.any r.newest s k ≡ b → Sized r → Sized (taking r s k).ring
taken_sized true r s k e h = subst Sized (taken_ring r s k e) (with_sized r s k h)
taken_sized false r s k e h = subst Sized (refused_ring r s k e) h

holds_from : (r : Ring) → Sized r → (came : List Sample) → ring_in (cells_after (cells_of r) came) ≡ ring_after r came
unfolding cells_after ring_after
holds_from r h [] = again r h
holds_from r h (s ∷ ss) =
    ap (λ (x : Ring). ring_in (cells_after (cells_of (taking x s.sequence s.height).ring) ss)) (again r h)
    ∙ holds_from (taking r s.sequence s.height).ring (taken_sized (takes r.any r.newest s.sequence s.height) r s.sequence s.height refl h) ss

pub caller_holds : CallerHolds
caller_holds came = holds_from empty_ring (record { numbers = refl; heights = refl }) came
