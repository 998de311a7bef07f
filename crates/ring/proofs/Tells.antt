-- From an empty ring, after any samples, taken or refused, the ring tells of each hour what the taken samples say.
use Prim.Native.Nat.{ℕ, zero, suc, ◌+◌, ◌-◌, ◌≤◌, ◌<◌}
use native.Mathlib.Omega.{arith}
use mathlib.Core.Path.{◌≡◌, refl, sym, ap, subst, ◌∙◌}
use mathlib.Core.Bool.{Bool, true, false, not, ◌&&◌, ◌||◌, cond}
use mathlib.Core.List.{List, [], ◌∷◌}
use mathlib.Core.Logic.{⊎_elim}
use lib.ListN.{length, get_or, set, replicate, length-set}
use lib.Seq.{get_or-set_same, get_or-set_other}
use lib.Dec.{leb, ltb, eqb}
use borrow.Author.Tests.{leb-true, le-leb, le-ltb, lt-ltb, eq-eqb, ne_eqb, eqb-true, eqb-false}
use Rattle.record.proofs.Choice.{and_left, and_right, below_or_not}
use Rattle.ring.specs.Samples.{Sample, steps_to, is_taken, taken_after, newest_of, Telling, sample_of, blank, not_told, hour_before, telling, AllSequences}
use Rattle.ring.specs.Kept.{empty_ring, slot_of, takes, hours_on, blanked, with_sample, taking, slot_hour, hour_in, ring_after}
use Rattle.ring.specs.Claims.{is_none, TellsOf, RingTells}
use Rattle.ring.specs.declared.Ring.{Ring}
use Rattle.ring.specs.Kept.{Taken}
use Rattle.ring.proofs.Stored.{length_blanked}
use Rattle.ring.proofs.Ages.{no_steps, slot_below, slots_differ, slot_moved, age_grown, age_before, blanked_in, blanked_out}

-- what a ring's slot says of the hour of an age
abbrev slot_says : Ring → ℕ → Telling
slot_says r age =
    slot_hour r.any r.newest (get_or r.numbers (slot_of r.newest age) 0) (get_or r.heights (slot_of r.newest age) 0) age

-- a ring that keeps taken samples
record Keeps (taken : List Sample) (r : Ring) : Type 0 where
  any : eqb r.any 0 ≡ is_none taken
  newest : r.newest ≡ newest_of taken
  low : r.newest < 65536
  numbers : length r.numbers ≡ 512
  heights : length r.heights ≡ 512
  small : (k : ℕ) → get_or r.numbers k 0 < 65536
  hours : (age : ℕ) → age ≤ 511 → slot_says r age ≡ hour_before (newest_of taken) taken age

-- ---- the empty ring

all_zero_lem : (n k : ℕ) → ◌≡◌ {A = ℕ} (get_or (replicate n 0) k 0) 0
all_zero_lem zero k = refl
all_zero_lem (suc n) zero = refl
all_zero_lem (suc n) (suc k) = all_zero_lem n k

keeps_none : Keeps [] empty_ring
unfolding slot_hour hour_before
keeps_none = record {
  any = refl;
  newest = refl;
  low = omega arith;
  numbers = refl;
  heights = refl;
  small = λ k. rw (all_zero_lem 512 k) (omega arith);
  hours = λ age h. refl;
}

-- ---- a slot's hour

-- a slot with nothing in it
empty_slot : (any newest number age : ℕ) → slot_hour any newest number 0 age ≡ blank
unfolding slot_hour
empty_slot any newest number age = go (eqb any 0) (eqb (steps_to number newest) age)
  where
    go : (a b : Bool) → cond (not a && (b && (leb 1 0 && leb 0 101))) (sample_of (0 - 1)) blank ≡ blank
    go true b = refl
    go false true = refl
    go false false = refl

-- the slot of the newest sample
new_slot : (n h : ℕ) → h ≤ 100 → slot_hour 1 n n (h + 1) 0 ≡ sample_of h
unfolding slot_hour
new_slot n h l =
    let a : eqb (steps_to n n) 0 ≡ true = eq-eqb (steps_to n n) 0 (no_steps n) in
    let b : leb 1 (h + 1) ≡ true = le-leb 1 (h + 1) (omega arith) in
    let c : leb (h + 1) 101 ≡ true = le-leb (h + 1) 101 (omega arith) in
    let e : h + 1 - 1 ≡ h = omega arith in
    rw (a, b, c) (ap sample_of e)

-- two tests that hold together
together : (a b c d : ℕ) → (a ≡ b → c ≡ d) → (c ≡ d → a ≡ b) → eqb a b ≡ eqb c d
together a b c d f g = go (eqb a b) refl
  where
    go : (t : Bool) → eqb a b ≡ t → eqb a b ≡ eqb c d
    go true e = e ∙ sym (eq-eqb c d (f (eqb-true a b e)))
    go false e = e ∙ sym (ne_eqb c d (λ x. eqb-false a b e (g x)))

-- a slot's hour grows older with the newest number
old_slot : (any n m number held age : ℕ) → n < 65536 → m < 65536 → number < 65536 → steps_to n m ≤ age → age ≤ 511 → eqb any 0 ≡ false
    → slot_hour 1 m number held age ≡ slot_hour any n number held (age - steps_to n m)
unfolding slot_hour
old_slot any n m number held age nl ml kl older young some =
    let e : eqb (steps_to number m) age ≡ eqb (steps_to number n) (age - steps_to n m) =
    together (steps_to number m) age (steps_to number n) (age - steps_to n m)
    (age_before n m age nl ml older young number kl) (age_grown n m age nl ml older young number kl) in
    let f : Bool → Bool → Telling = λ (a b : Bool). cond (not a && (b && (leb 1 held && leb held 101))) (sample_of (held - 1)) blank in
    ap (λ (b : Bool). f false b) e ∙ ap (λ (a : Bool). f a (eqb (steps_to number n) (age - steps_to n m))) (sym some)

-- ---- the hours of taken samples

-- the hour of an age where the newest sample is d hours older than number n
abbrev from : Sample → List Sample → ℕ → ℕ → Telling
from s ss d age = cond (ltb age d) blank (cond (eqb age d) (sample_of s.height) (hour_before s.sequence ss (age - d)))

hour_from : (n : ℕ) (s : Sample) (ss : List Sample) (age : ℕ) → hour_before n (s ∷ ss) age ≡ from s ss (steps_to s.sequence n) age
unfolding hour_before
hour_from n s ss age = refl

-- the newest hour, and those before it
newest_hour : (s : Sample) (ss : List Sample) → hour_before s.sequence (s ∷ ss) 0 ≡ sample_of s.height
newest_hour s ss = hour_from s.sequence s ss 0 ∙ ap (λ (d : ℕ). from s ss d 0) (no_steps s.sequence)

hour_since : (s : Sample) (ss : List Sample) (age : ℕ) → 1 ≤ age → hour_before s.sequence (s ∷ ss) age ≡ hour_before s.sequence ss age
hour_since s ss age h =
    let a : ltb age 0 ≡ false = le-ltb age 0 (omega arith) in
    let b : eqb age 0 ≡ false = ne_eqb age 0 (λ e. omega arith) in
    let c : age - 0 ≡ age = omega arith in
    hour_from s.sequence s ss age
    ∙ (ap (λ (d : ℕ). from s ss d age) (no_steps s.sequence)
    ∙ rw (a, b) (ap (hour_before s.sequence ss) c))

-- hours that were skipped
hour_skipped : (n : ℕ) (s : Sample) (ss : List Sample) (age : ℕ) → age < steps_to s.sequence n → hour_before n (s ∷ ss) age ≡ blank
hour_skipped n s ss age h = let a : ltb age (steps_to s.sequence n) ≡ true = lt-ltb age (steps_to s.sequence n) h in hour_from n s ss age ∙ rw a

-- the same samples from an older number
same_from : (s : Sample) (ss : List Sample) (d age : ℕ) → d ≤ age → from s ss d age ≡ from s ss 0 (age - d)
same_from s ss d age h =
    let a : ltb age d ≡ false = le-ltb age d h in
    let b : ltb (age - d) 0 ≡ false = le-ltb (age - d) 0 (omega arith) in
    let c : eqb age d ≡ eqb (age - d) 0 = together age d (age - d) 0 (λ e. omega arith) (λ e. omega arith) in
    let e : age - d ≡ age - d - 0 = omega arith in
    rw (a, b, c) (ap (λ (x : ℕ). cond (eqb (age - d) 0) (sample_of s.height) (hour_before s.sequence ss x)) e)

hour_older : (n : ℕ) (s : Sample) (ss : List Sample) (age : ℕ) → steps_to s.sequence n ≤ age
    → hour_before s.sequence (s ∷ ss) (age - steps_to s.sequence n) ≡ hour_before n (s ∷ ss) age
hour_older n s ss age h =
    let d = steps_to s.sequence n in
    hour_from s.sequence s ss (age - d)
    ∙ (ap (λ (x : ℕ). from s ss x (age - d)) (no_steps s.sequence)
    ∙ (sym (same_from s ss d age h) ∙ sym (hour_from n s ss age)))

-- ---- a sample more

small_set : (l : List ℕ) (i v : ℕ) → ((k : ℕ) → get_or l k 0 < 65536) → v < 65536 → (k : ℕ) → get_or (set l i v) k 0 < 65536
small_set [] i v f g k = f k
small_set (x ∷ l) zero v f g zero = g
small_set (x ∷ l) zero v f g (suc k) = f (suc k)
small_set (x ∷ l) (suc i) v f g zero = f zero
small_set (x ∷ l) (suc i) v f g (suc k) = small_set l i v (λ j. f (suc j)) g k

module _ (r : Ring) (s : Sample) (numbers : length r.numbers ≡ 512) (heights : length r.heights ≡ 512) where
  -- the heights with the skipped hours made blank
  abbrev blanks : List ℕ
  blanks = blanked 0 r.heights s.sequence (hours_on r.any r.newest s.sequence - 1)

  abbrev more : Ring
  more = with_sample r s.sequence s.height

  says_newest : s.height ≤ 100 → slot_says more 0 ≡ sample_of s.height
  unfolding with_sample
  says_newest h =
      let n = s.sequence in
      let k = slot_of n 0 in
      let b : k < length r.numbers = rw numbers (slot_below n 0) in
      let c : k < length blanks = rw (length_blanked 0 r.heights n (hours_on r.any r.newest n - 1), heights) (slot_below n 0) in
      ap (λ (x : ℕ). slot_hour 1 n x (get_or (set blanks k (s.height + 1)) k 0) 0) (get_or-set_same r.numbers k n 0 b)
      ∙ (ap (λ (x : ℕ). slot_hour 1 n n x 0) (get_or-set_same blanks k (s.height + 1) 0 c)
      ∙ new_slot n s.height h)

  -- another slot holds what it held, but for the blank hours
  says_other : (age : ℕ) → 1 ≤ age → age ≤ 511
      → slot_says more age ≡ slot_hour 1 s.sequence (get_or r.numbers (slot_of s.sequence age) 0) (get_or blanks (slot_of s.sequence age) 0) age
  unfolding with_sample
  says_other age h l =
      let n = s.sequence in
      let i = slot_of n 0 in
      let k = slot_of n age in
      let other : k ≡ i → ⊥ = λ e. slots_differ n 0 age h l (sym e) in
      ap (λ (x : ℕ). slot_hour 1 n x (get_or (set blanks i (s.height + 1)) k 0) age) (get_or-set_other r.numbers i k n 0 other)
      ∙ ap (λ (x : ℕ). slot_hour 1 n (get_or r.numbers k 0) x age) (get_or-set_other blanks i k (s.height + 1) 0 other)

  says_skipped : (age : ℕ) → 1 ≤ age → age ≤ 511 → age < hours_on r.any r.newest s.sequence → hours_on r.any r.newest s.sequence ≤ 512
      → slot_says more age ≡ blank
  says_skipped age h l m on =
      let n = s.sequence in
      says_other age h l
      ∙ (ap (λ (x : ℕ). slot_hour 1 n (get_or r.numbers (slot_of n age) 0) x age)
      (blanked_in r.heights n (hours_on r.any r.newest n - 1) age heights h (omega arith) (omega arith))
      ∙ empty_slot 1 n (get_or r.numbers (slot_of n age) 0) age)

  says_older : (age : ℕ) → 1 ≤ age → age ≤ 511 → eqb r.any 0 ≡ false → r.newest < 65536 → s.sequence < 65536
      → ((k : ℕ) → get_or r.numbers k 0 < 65536) → 1 ≤ steps_to r.newest s.sequence → steps_to r.newest s.sequence ≤ age
      → slot_says more age ≡ slot_says r (age - steps_to r.newest s.sequence)
  unfolding hours_on
  says_older age h l some nl ml small one older =
      let n = s.sequence in
      let d = steps_to r.newest n in
      let k = slot_of n age in
      says_other age h l
      ∙ (ap (λ (t : Bool). slot_hour 1 n (get_or r.numbers k 0) (get_or (blanked 0 r.heights n (cond t 512 d - 1)) k 0) age) some
      ∙ (ap (λ (x : ℕ). slot_hour 1 n (get_or r.numbers k 0) x age) (blanked_out r.heights n (d - 1) age (less older one) l)
      ∙ (old_slot r.any r.newest n (get_or r.numbers k 0) (get_or r.heights k 0) age nl ml (small k) older l some
      ∙ ap (λ (x : ℕ). slot_hour r.any r.newest (get_or r.numbers x 0) (get_or r.heights x 0) (age - d))
      (slot_moved r.newest n age nl ml older l))))
    where
      less : {d a : ℕ} → d ≤ a → 1 ≤ d → d - 1 < a
      less f g = omega arith

-- the hours that a sample moves the ring on by: the first, and another
on_first : (any newest sequence : ℕ) → eqb any 0 ≡ true → hours_on any newest sequence ≡ 512
unfolding hours_on
on_first any newest sequence e = rw e

on_next : (any newest sequence : ℕ) → eqb any 0 ≡ false → hours_on any newest sequence ≡ steps_to newest sequence
unfolding hours_on
on_next any newest sequence e = rw e

none_before : (n age : ℕ) → blank ≡ hour_before n [] age
unfolding hour_before
none_before n age = refl

-- a taken sample's height and steps
taken_height : (taken : List Sample) (s : Sample) → is_taken taken s ≡ true → s.height ≤ 100
taken_height [] s t = leb-true s.height 100 (and_left (leb s.height 100) true t)
taken_height (x ∷ xs) s t =
    let d = steps_to x.sequence s.sequence in leb-true s.height 100 (and_left (leb s.height 100) (leb 1 d && leb d 512) t)

taken_steps : (x : Sample) (xs : List Sample) (s : Sample) → is_taken (x ∷ xs) s ≡ true
    → (1 ≤ steps_to x.sequence s.sequence) × (steps_to x.sequence s.sequence ≤ 512)
taken_steps x xs s t =
    let d = steps_to x.sequence s.sequence in
    let both : (leb 1 d && leb d 512) ≡ true = and_right (leb s.height 100) (leb 1 d && leb d 512) t in
    (leb-true 1 d (and_left (leb 1 d) (leb d 512) both), leb-true d 512 (and_right (leb 1 d) (leb d 512) both))

-- the hours before that of a sample more
hours_before : (taken : List Sample) (r : Ring) (s : Sample) → Keeps taken r → s.sequence < 65536 → is_taken taken s ≡ true
    → (age : ℕ) → 1 ≤ age → age ≤ 511 → slot_says (with_sample r s.sequence s.height) age ≡ hour_before s.sequence taken age
hours_before [] r s k ml t age h l =
    let e : hours_on r.any r.newest s.sequence ≡ 512 = on_first r.any r.newest s.sequence k.any in
    says_skipped r s k.numbers k.heights age h l (rw e (omega arith)) (rw e (omega arith)) ∙ none_before s.sequence age
hours_before (x ∷ xs) r s k ml t age h l =
    let n = s.sequence in
    let d = steps_to x.sequence n in
    let on : hours_on r.any r.newest n ≡ d = on_next r.any r.newest n k.any ∙ ap (λ (y : ℕ). steps_to y n) k.newest in
    let steps = taken_steps x xs s t in
    ⊎_elim
    (λ (lt : age < d).
    says_skipped r s k.numbers k.heights age h l (rw on lt) (rw on steps.1) ∙ sym (hour_skipped n x xs age lt))
    (λ (ge : d ≤ age).
    says_older r s k.numbers k.heights age h l k.any k.low ml k.small
    (subst (λ (y : ℕ). 1 ≤ steps_to y n) (sym k.newest) steps.0) (subst (λ (y : ℕ). steps_to y n ≤ age) (sym k.newest) ge)
    ∙ (ap (λ (y : ℕ). slot_says r (age - steps_to y n)) k.newest
    ∙ (k.hours (age - d) (younger age d l) ∙ hour_older n x xs age ge)))
    (below_or_not age d)
  where
    younger : (a c : ℕ) → a ≤ 511 → a - c ≤ 511
    younger a c f = omega arith

hours_more : (taken : List Sample) (r : Ring) (s : Sample) → Keeps taken r → s.sequence < 65536 → is_taken taken s ≡ true
    → (age : ℕ) → age ≤ 511 → slot_says (with_sample r s.sequence s.height) age ≡ hour_before s.sequence (s ∷ taken) age
hours_more taken r s k ml t zero l =
    says_newest r s k.numbers k.heights (taken_height taken s t) ∙ sym (newest_hour s taken)
hours_more taken r s k ml t (suc age) l =
    hours_before taken r s k ml t (suc age) (omega arith) l ∙ sym (hour_since s taken (suc age) (omega arith))

keeps_more : (taken : List Sample) (r : Ring) (s : Sample) → Keeps taken r → s.sequence < 65536 → is_taken taken s ≡ true
    → Keeps (s ∷ taken) (with_sample r s.sequence s.height)
unfolding with_sample
keeps_more taken r s k ml t =
    let n = s.sequence in
    record {
      any = refl;
      newest = refl;
      low = ml;
      numbers = length-set r.numbers (slot_of n 0) n ∙ k.numbers;
      heights =
          length-set (blanked 0 r.heights n (hours_on r.any r.newest n - 1)) (slot_of n 0) (s.height + 1)
          ∙ (length_blanked 0 r.heights n (hours_on r.any r.newest n - 1) ∙ k.heights);
      small = small_set r.numbers (slot_of n 0) n k.small ml;
      hours = hours_more taken r s k ml t;
    }

-- ---- any samples

-- the ring takes the samples that are taken
takes_taken : (taken : List Sample) (r : Ring) (s : Sample) → Keeps taken r → takes r.any r.newest s.sequence s.height ≡ is_taken taken s
unfolding takes
takes_taken [] r s k =
    let d = steps_to r.newest s.sequence in ap (λ (t : Bool). leb s.height 100 && (t || (leb 1 d && leb d 512))) k.any
takes_taken (x ∷ xs) r s k =
    let f : Bool → ℕ → Bool = λ (t : Bool) (n : ℕ). leb s.height 100 && (t || (leb 1 (steps_to n s.sequence) && leb (steps_to n s.sequence) 512)) in
    ap (λ (t : Bool). f t r.newest) k.any ∙ ap (f false) k.newest

keeps_next : (taken : List Sample) (r : Ring) (s : Sample) → Keeps taken r → s.sequence < 65536
    → Keeps (cond (is_taken taken s) (s ∷ taken) taken) (taking r s.sequence s.height).ring
unfolding taking
keeps_next taken r s k ml =
    rw (takes_taken taken r s k) (go (is_taken taken s) refl)
  where
    go : (t : Bool) → is_taken taken s ≡ t
        → Keeps (cond t (s ∷ taken) taken)
        (cond {A = Taken} t (record { number = 0; ring = with_sample r s.sequence s.height }) (record { number = 27; ring = r })).ring
    go true e = keeps_more taken r s k ml e
    go false e = k

hours_told : (taken : List Sample) (r : Ring) → Keeps taken r → (age : ℕ) → hour_in r age ≡ telling taken age
unfolding hour_in telling
hours_told taken r k age = go (leb age 511) refl
  where
    go : (t : Bool) → leb age 511 ≡ t → cond t (slot_says r age) (not_told 27) ≡ cond t (hour_before (newest_of taken) taken age) (not_told 27)
    go true e = k.hours age (leb-true age 511 e)
    go false e = refl

tells : (taken : List Sample) (r : Ring) → Keeps taken r → TellsOf taken r
unfolding taking
tells taken r k =
    record {
      any = k.any;
      newest = k.newest;
      hours = hours_told taken r k;
      next = λ s l. number (takes r.any r.newest s.sequence s.height) (is_taken taken s) (with_sample r s.sequence s.height) (takes_taken taken r s k);
    }
  where
    number : (a b : Bool) (w : Ring) → a ≡ b
        → ◌≡◌ {A = ℕ} (cond {A = Taken} a (record { number = 0; ring = w }) (record { number = 27; ring = r })).number (cond b 0 27)
    number a true w e = rw e
    number a false w e = rw e

tells_after : (came taken : List Sample) (r : Ring) → Keeps taken r → AllSequences came → TellsOf (taken_after taken came) (ring_after r came)
unfolding taken_after ring_after AllSequences
tells_after [] taken r k a = tells taken r k
tells_after (s ∷ ss) taken r k a =
    tells_after ss (cond (is_taken taken s) (s ∷ taken) taken) (taking r s.sequence s.height).ring (keeps_next taken r s k a.0) a.1

pub ring_tells : RingTells
ring_tells came a = tells_after came [] empty_ring keeps_none a
