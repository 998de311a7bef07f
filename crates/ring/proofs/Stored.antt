-- Stores into a ring's numbers: hours made blank, a sample put into its slot, also in a ring as a C caller holds it.
use Prim.Native.Nat.{ℕ, zero, suc, ◌+◌, ◌-◌, ◌≤◌, ◌<◌}
use native.Mathlib.Nat.{zero-add, suc-add}
use native.Mathlib.Omega.{arith}
use mathlib.Core.Path.{◌≡◌, refl, sym, ap, subst, ◌∙◌}
use mathlib.Core.Bool.{Bool, true, false, ◌&&◌, ◌||◌, cond}
use lib.Dec.{leb, eqb}
use borrow.Author.Tests.{leb-true}
use mathlib.Core.List.{List, [], ◌∷◌, ◌++◌, map}
use lib.ListN.{length, get_or, set, take, drop, length-take, length-drop, length-set, take-append-drop}
use lib.Seq.{set-append_left, drop-drop}
use Rattle.record.proofs.Choice.{and_left, and_right}
use Rattle.ring.specs.Samples.{steps_to}
use Rattle.ring.specs.Kept.{slot_of, takes, hours_on, blanked, with_sample, taking, ring_in, cells_of}
use Rattle.ring.specs.declared.Ring.{Ring}
use Rattle.ring.specs.Kept.{taken_of}
use Rattle.std.specs.Prelude.{Ok, Err}
use Rattle.refusal.specs.Number as refusals
use Rattle.refusal.specs.declared.Refusal.TheVariants.{WearRange}
use Rattle.refusal.proofs.Numbers.{accepted, refused_with}

pub length_blanked : (from : ℕ) (numbers : List ℕ) (n k : ℕ) → length (blanked from numbers n k) ≡ length numbers
unfolding blanked
length_blanked from numbers n zero = refl
length_blanked from numbers n (suc k) = length-set (blanked from numbers n k) (from + slot_of n (suc k)) 0 ∙ length_blanked from numbers n k

-- a store after a seam
pub set_after : (p q : List ℕ) (i v : ℕ) → set (p ++ q) (length p + i) v ≡ p ++ set q i v
set_after [] q i v = rw zero-add
set_after (x ∷ p) q i v = rw (suc-add (length p) i) (ap (λ (l : List ℕ). x ∷ l) (set_after p q i v))

-- hours made blank after a seam
pub blanked_after : (p q : List ℕ) (n k : ℕ) → blanked (length p) (p ++ q) n k ≡ p ++ blanked 0 q n k
unfolding blanked
blanked_after p q n zero = refl
blanked_after p q n (suc k) =
    ap (λ (l : List ℕ). set l (length p + slot_of n (suc k)) 0) (blanked_after p q n k)
    ∙ set_after p (blanked 0 q n k) (slot_of n (suc k)) 0
    ∙ ap (λ (i : ℕ). p ++ set (blanked 0 q n k) i 0) (sym (zero-add (slot_of n (suc k))))

-- the stores of a sample, ns being the 512 numbers
stores : (a b : ℕ) (ns hs : List ℕ) (s v k at : ℕ) → length ns ≡ 512 → at < 512
    → set (set (set (set (blanked 514 (a ∷ b ∷ (ns ++ hs)) s k) 0 1) 1 s) (2 + at) s) (514 + at) v
    ≡ 1 ∷ s ∷ (set ns at s ++ set (blanked 0 hs s k) at v)
stores a b ns hs s v k at n h =
    let p : List ℕ = a ∷ b ∷ ns in
    let new : List ℕ = blanked 0 hs s k in
    let e : length p ≡ 514 = ap (λ (x : ℕ). suc (suc x)) n in
    let made : blanked 514 (p ++ hs) s k ≡ p ++ new = subst (λ (x : ℕ). blanked x (p ++ hs) s k ≡ p ++ new) e (blanked_after p hs s k) in
    let first : set (set (p ++ new) 0 1) 1 s ≡ 1 ∷ s ∷ (ns ++ new) = refl in
    let number : set (1 ∷ s ∷ (ns ++ new)) (2 + at) s ≡ (1 ∷ s ∷ set ns at s) ++ new =
    set_after (1 ∷ s ∷ []) (ns ++ new) at s
    ∙ ap (λ (l : List ℕ). 1 ∷ s ∷ l) (set-append_left ns new at s (rw n h)) in
    let q : List ℕ = 1 ∷ s ∷ set ns at s in
    let f : length q ≡ 514 = ap (λ (x : ℕ). suc (suc x)) (length-set ns at s ∙ n) in
    let height : set (q ++ new) (514 + at) v ≡ q ++ set new at v =
    subst (λ (x : ℕ). set (q ++ new) (x + at) v ≡ q ++ set new at v) f (set_after q new at v) in
    ap (λ (l : List ℕ). set (set (set (set l 0 1) 1 s) (2 + at) s) (514 + at) v) made
    ∙ (ap (λ (l : List ℕ). set (set l (2 + at) s) (514 + at) v) first
    ∙ (ap (λ (l : List ℕ). set l (514 + at) v) number
    ∙ height))

two_cells : (cells : List ℕ) → 2 ≤ length cells → cells ≡ get_or cells 0 0 ∷ get_or cells 1 0 ∷ drop 2 cells
two_cells [] h = absurd (omega arith)
two_cells (a ∷ []) h = absurd (omega arith)
two_cells (a ∷ b ∷ l) h = refl

-- a ring as a C caller holds it is its ring's
pub cells_whole : (cells : List ℕ) → length cells ≡ 1026 → cells ≡ cells_of (ring_in cells)
cells_whole cells n =
    two_cells cells (omega arith)
    ∙ ap (λ (l : List ℕ). get_or cells 0 0 ∷ get_or cells 1 0 ∷ l)
    (sym (take-append-drop 512 (drop 2 cells)) ∙ ap (λ (l : List ℕ). take 512 (drop 2 cells) ++ l) (drop-drop 512 2 cells))

length_numbers : (cells : List ℕ) → length cells ≡ 1026 → length (take 512 (drop 2 cells)) ≡ 512
length_numbers cells n = simp (length-take, length-drop) (omega arith)

-- a taken sample: its height, and the hours that it moves the ring on by
pub taken_low : (any newest s h : ℕ) → takes any newest s h ≡ true → h ≤ 100
unfolding takes
taken_low any newest s h t = leb-true h 100 (and_left (leb h 100) (eqb any 0 || (leb 1 (steps_to newest s) && leb (steps_to newest s) 512)) t)

moved_on : (steps : ℕ) (first : Bool) → (first || (leb 1 steps && leb steps 512)) ≡ true → (1 ≤ cond first 512 steps) × (cond first 512 steps ≤ 512)
moved_on steps true t = (omega arith, omega arith)
moved_on steps false t = (leb-true 1 steps (and_left (leb 1 steps) (leb steps 512) t), leb-true steps 512 (and_right (leb 1 steps) (leb steps 512) t))

pub taken_hours : (any newest s h : ℕ) → takes any newest s h ≡ true → (1 ≤ hours_on any newest s) × (hours_on any newest s ≤ 512)
unfolding takes hours_on
taken_hours any newest s h t =
    moved_on (steps_to newest s) (eqb any 0) (and_right (leb h 100) (eqb any 0 || (leb 1 (steps_to newest s) && leb (steps_to newest s) 512)) t)

-- a sample by its test
pub taken_number : (r : Ring) (s h : ℕ) → takes r.any r.newest s h ≡ true → 0 ≡ (taking r s h).number
unfolding taking
taken_number r s h t = rw t

pub taken_ring : (r : Ring) (s h : ℕ) → takes r.any r.newest s h ≡ true → with_sample r s h ≡ (taking r s h).ring
unfolding taking
taken_ring r s h t = rw t

pub refused_number : (r : Ring) (s h : ℕ) → takes r.any r.newest s h ≡ false → 27 ≡ (taking r s h).number
unfolding taking
refused_number r s h t = rw t

pub refused_ring : (r : Ring) (s h : ℕ) → takes r.any r.newest s h ≡ false → r ≡ (taking r s h).ring
unfolding taking
refused_ring r s h t = rw t

-- the answer to a sample: refused, and taken
pub sample_refused : (r : Ring) (s h : ℕ) → takes r.any r.newest s h ≡ false → Err WearRange ≡ taken_of (taking r s h)
unfolding taking taken_of refusals.number
sample_refused r s h t = rw t (sym (refused_with r WearRange 27 refl))

pub sample_taken : (r : Ring) (blanks : List ℕ) (s h k at : ℕ) → takes r.any r.newest s h ≡ true
    → k ≡ hours_on r.any r.newest s → at ≡ slot_of s 0 → blanks ≡ blanked 0 r.heights s (k - 1)
    → Ok (record { any = 1; newest = s; numbers = set r.numbers at s; heights = set blanks at (h + 1) }) ≡ taken_of (taking r s h)
unfolding taking with_sample taken_of
sample_taken r blanks s h k at t m a b =
    let f : List ℕ → ℕ → Ring = λ (l : List ℕ) (x : ℕ). record { any = 1; newest = s; numbers = set r.numbers x s; heights = set l x (h + 1) } in
    rw t (ap (λ (l : List ℕ). Ok (f l at)) b
    ∙ (ap (λ (x : ℕ). Ok (f (blanked 0 r.heights s (x - 1)) at)) m
    ∙ (ap (λ (x : ℕ). Ok (f (blanked 0 r.heights s (hours_on r.any r.newest s - 1)) x)) a
    ∙ sym (accepted _ 0 refl))))

-- the cells after a sample: refused, and taken
pub cells_refused : (cells : List ℕ) (s h : ℕ) → length cells ≡ 1026 → takes (get_or cells 0 0) (get_or cells 1 0) s h ≡ false
    → cells ≡ cells_of (taking (ring_in cells) s h).ring
cells_refused cells s h n t = cells_whole cells n ∙ ap cells_of (refused_ring (ring_in cells) s h t)

pub cells_taken : (cells blanks : List ℕ) (s h k at : ℕ) → length cells ≡ 1026 → takes (get_or cells 0 0) (get_or cells 1 0) s h ≡ true
    → k ≡ hours_on (get_or cells 0 0) (get_or cells 1 0) s → at ≡ slot_of s 0 → at < 512 → blanks ≡ blanked 514 cells s (k - 1)
    → set (set (set (set blanks 0 1) 1 s) (2 + at) s) (514 + at) (h + 1) ≡ cells_of (taking (ring_in cells) s h).ring
unfolding with_sample
cells_taken cells blanks s h k at n t m a l b =
    let f : List ℕ → List ℕ = λ (x : List ℕ). set (set (set (set x 0 1) 1 s) (2 + at) s) (514 + at) (h + 1) in
    let ns : List ℕ = take 512 (drop 2 cells) in
    let hs : List ℕ = drop 514 cells in
    let g : ℕ → ℕ → List ℕ = λ (j x : ℕ). 1 ∷ s ∷ (set ns x s ++ set (blanked 0 hs s (j - 1)) x (h + 1)) in
    ap f b
    ∙ (ap (λ (x : List ℕ). f (blanked 514 x s (k - 1))) (cells_whole cells n)
    ∙ (stores (get_or cells 0 0) (get_or cells 1 0) ns hs s (h + 1) (k - 1) at (length_numbers cells n) l
    ∙ (ap (λ (x : ℕ). g x at) m
    ∙ (ap (λ (x : ℕ). g (hours_on (get_or cells 0 0) (get_or cells 1 0) s) x) a
    ∙ ap cells_of (taken_ring (ring_in cells) s h t)))))

-- a struct tells the length of an array in this form
pub array_length : (xs : List ℕ) → length (map (λ (x : ℕ). x) xs) ≡ length xs
array_length [] = refl
array_length (x ∷ xs) = ap suc (array_length xs)
