-- The strip depends on the accepted samples alone, besides what the caller gives, and has the newest one's number below it.
use Prim.Native.Nat.{ℕ, zero, suc}
use mathlib.Core.Path.{◌≡◌, refl, sym, ap, subst, ◌∙◌}
use mathlib.Core.Bool.{Bool, cond}
use mathlib.Core.List.{List, [], ◌∷◌}
use lib.Dec.{eqb}
use Rattle.ring.specs.Samples.{Sample, accepted}
use Rattle.ring.specs.Kept.{empty_ring, ring_after, hour_in, heights_of}
use Rattle.ring.specs.Claims.{is_none, TellsOf}
use Rattle.ring.specs.declared.Ring.{Ring}
use Rattle.ring.proofs.Tells.{ring_tells}
use Rattle.wear.specs.Font.{digits_of}
use Rattle.wear.specs.Strip.{strip_with, digits_in}
use Rattle.wear.specs.Claims.{SameStrip, NewestBelow}

same_heights : (r q : Ring) → ((age : ℕ) → hour_in r age ≡ hour_in q age) → (n : ℕ) → heights_of r n ≡ heights_of q n
unfolding heights_of
same_heights r q e zero = refl
same_heights r q e (suc n) = λ t. (e n t).height ∷ same_heights r q e n t

-- two rings that tell the same samples
module _ (taken : List Sample) (r q : Ring) (a : TellsOf taken r) (b : TellsOf taken q) where
  same_digits : digits_in r.any r.newest ≡ digits_in q.any q.newest
  same_digits =
      let f : Bool → ℕ → List ℕ = λ (t : Bool) (n : ℕ). cond t [] (digits_of n) in
      ap (λ (t : Bool). f t r.newest) (a.any ∙ sym b.any) ∙ ap (f (eqb q.any 0)) (a.newest ∙ sym b.newest)

  same_hours : (age : ℕ) → hour_in r age ≡ hour_in q age
  same_hours age = a.hours age ∙ sym (b.hours age)

pub same_strip : SameStrip
same_strip came others f g e ask site factory =
    let r = ring_after empty_ring came in
    let q = ring_after empty_ring others in
    let a : TellsOf (accepted came) r = ring_tells came f in
    let b : TellsOf (accepted came) q = subst (λ (x : List Sample). TellsOf x q) (sym e) (ring_tells others g) in
    λ t. strip_with ask (same_heights r q (same_hours (accepted came) r q a b) ask.hours t) (same_digits (accepted came) r q a b t) site factory

pub newest_below : NewestBelow
newest_below came f ask site factory =
    let r = ring_after empty_ring came in
    let t = ring_tells came f in
    ap (λ (x : Bool). cond x [] (digits_of r.newest)) t.any ∙ ap (λ (n : ℕ). cond (is_none (accepted came)) [] (digits_of n)) t.newest
