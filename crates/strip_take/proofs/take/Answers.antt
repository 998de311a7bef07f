use mathlib.Core.Path.{◌≡◌, refl, sym, ◌∙◌}
use mathlib.Core.Bool.{Bool, true, false}
use Prim.Native.Nat.{ℕ, ◌<◌}
use native.Mathlib.Omega.{arith}
use Rattle.refusal.proofs.Numbers.{accepted_by, refused_by}
use Rattle.ring.proofs.Stored.{taken_number, refused_ring}
use Rattle.ring.specs.Kept.{takes, taking, taken_of}
use Rattle.ring.specs.declared.Ring.{Ring}
use Rattle.strip_take.proofs.take.Goals as goal

-- a sample that is refused leaves the ring
ring_left : (b : Bool) (r : Ring) (s h : ℕ) → takes r.any r.newest s h ≡ b → 0 < (taking r s h).number → r ≡ (taking r s h).ring
ring_left true r s h e n = absurd (omega (arith, n, taken_number r s h e))
ring_left false r s h e n = refused_ring r s h e

pub returns-in-Ok : goal.returns-in-Ok
unfolding taken_of
returns-in-Ok g c = (accepted_by _ _ _ (sym c.take_sample.ensures ∙ c.in-Ok.is)).1

pub returns-in-Err : goal.returns-in-Err
unfolding taken_of
returns-in-Err g c =
    let a = c.args in
    ring_left (takes a.ring.now.any a.ring.now.newest a.s.sequence a.s.height) _ _ _ refl (refused_by _ _ _ (sym c.take_sample.ensures ∙ c.in-Err.is)).0
