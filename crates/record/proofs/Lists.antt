-- Laws of lists by their elements, of limits on numbers, and of a list's parts.
use Prim.Native.Nat.{ℕ, zero, suc, ◌+◌, ◌-◌, ◌*◌, ◌/◌, ◌<◌, ◌≤◌}
use mathlib.Core.Path.{◌≡◌, refl, sym, ap, subst, ◌∙◌}
use mathlib.Core.List.{List, [], ◌∷◌, ◌++◌}
use mathlib.Core.Logic.{⊎_elim}
use native.Mathlib.Nat.{le_of_suc-le-suc, not-suc-le-zero, suc-mul, zero-add, suc-add}
use native.Mathlib.Numerals.{add-one}
use native.Mathlib.Omega.{arith}
use lib.ListN.{length, get_or, set, take, drop, length-take}
use lib.Seq.{ext_get_or, get_or-set_other, get_or-set_same, get_or-take, get_or-drop, drop-drop, drop_at}
use Rattle.record.specs.Lists.{AllBelow, tabulate, parts_from, parts_of}
use Rattle.record.proofs.Choice.{below_or_not}

-- ---- a list from its elements
pub length_tabulate : (n : ℕ) (f : ℕ → ℕ) → length (tabulate n f) ≡ n
length_tabulate zero f = refl
length_tabulate (suc n) f = ap suc (length_tabulate n (λ k. f (suc k)))

pub get_d_tabulate : (n : ℕ) (f : ℕ → ℕ) (i : ℕ) → i < n → get_or (tabulate n f) i 0 ≡ f i
get_d_tabulate zero f i h = absurd (not-suc-le-zero h)
get_d_tabulate (suc n) f zero h = refl
get_d_tabulate (suc n) f (suc i) h = get_d_tabulate n (λ k. f (suc k)) i (le_of_suc-le-suc h)

pub tabulate_ext : (n : ℕ) (f g : ℕ → ℕ) → ((a : ℕ) → f a ≡ g a) → tabulate n f ≡ tabulate n g
tabulate_ext n f g e = λ t. tabulate n (λ a. e a t)

-- the same elements below n are enough
pub tabulate_below : (n : ℕ) (f g : ℕ → ℕ) → ((a : ℕ) → a < n → f a ≡ g a) → tabulate n f ≡ tabulate n g
tabulate_below zero f g e = refl
tabulate_below (suc n) f g e = λ t. e 0 (omega arith) t ∷ tabulate_below n (λ k. f (suc k)) (λ k. g (suc k)) (λ a h. e (suc a) (omega arith)) t

-- one list behind the other
pub tabulate_append : (n k : ℕ) (f : ℕ → ℕ) → tabulate n f ++ tabulate k (λ j. f (n + j)) ≡ tabulate (n + k) f
tabulate_append zero k f = simp zero-add
tabulate_append (suc n) k f = simp suc-add (ap (λ (l : List ℕ). f 0 ∷ l) (tabulate_append n k (λ j. f (suc j))))

-- ---- a list that is filled place by place
pub filled_more : {A : Type 0} (f : ℕ → A) (d v : A) (n : ℕ) (l : List A) → n < length l → ((k : ℕ) → k < n → get_or l k d ≡ f k) → v ≡ f n
    → (k : ℕ) → k < suc n → get_or (set l n v) k d ≡ f k
filled_more f d v n l room e ev k h =
    ⊎_elim
    (λ p. get_or-set_other l n k v d (omega arith) ∙ e k p)
    (λ p.
    let t : k ≡ n = omega arith in
    rw t (get_or-set_same l n v d room ∙ ev))
    (below_or_not k n)

pub filled_all : (f : ℕ → ℕ) (n : ℕ) (l : List ℕ) → length l ≡ n → ((k : ℕ) → k < n → get_or l k 0 ≡ f k) → l ≡ tabulate n f
filled_all f n l len e = ext_get_or 0 l _ (len ∙ sym (length_tabulate n f)) (λ i h. e i (omega arith) ∙ sym (get_d_tabulate n f i (omega arith)))

-- ---- numbers below a limit
pub nothing_past : (xs : List ℕ) (k : ℕ) → length xs ≤ k → get_or xs k 0 ≡ 0
nothing_past [] k h = refl
nothing_past (x ∷ xs) zero h = absurd (omega arith)
nothing_past (x ∷ xs) (suc k) h = nothing_past xs k (omega arith)

pub below_drop : (limit n : ℕ) (xs : List ℕ) → AllBelow limit xs → AllBelow limit (drop n xs)
below_drop limit n xs h = λ k. subst (λ (x : ℕ). x < limit) (sym (get_or-drop n xs k 0)) (h (n + k))

pub below_take : (limit n : ℕ) (xs : List ℕ) → AllBelow limit xs → AllBelow limit (take n xs)
below_take limit n xs h = λ k.
    ⊎_elim
    (λ p. subst (λ (x : ℕ). x < limit) (sym (get_or-take n xs k 0 p)) (h k))
    (λ p. subst (λ (x : ℕ). x < limit) (sym (past k p)) (omega (arith, h 0)))
    (below_or_not k n)
  where
    past : (k : ℕ) → n ≤ k → get_or (take n xs) k 0 ≡ 0
    past k p = nothing_past (take n xs) k (simp length-take (omega arith))

pub below_tabulate : (limit : ℕ) → 0 < limit → (n : ℕ) (f : ℕ → ℕ) → ((a : ℕ) → f a < limit) → AllBelow limit (tabulate n f)
below_tabulate limit pos n f h = λ k.
    ⊎_elim
    (λ p. subst (λ (x : ℕ). x < limit) (sym (get_d_tabulate n f k p)) (h k))
    (λ p. subst (λ (x : ℕ). x < limit) (sym (nothing_past (tabulate n f) k (subst (λ (x : ℕ). x ≤ k) (sym (length_tabulate n f)) p))) pos)
    (below_or_not k n)

-- ---- a list's parts
pub parts_step : (size : ℕ) (list : List ℕ) (i n : ℕ) → i < n → parts_from size list i (n - i) ≡ take size (drop (i * size) list) ∷ parts_from size list (i + 1) (n - (i + 1))
unfolding parts_from
parts_step size list i n h = let e : n - i ≡ suc (n - (i + 1)) = omega arith in rw (e, add-one)

pub parts_end : (size : ℕ) (list : List ℕ) (i n : ℕ) → n ≤ i → parts_from size list i (n - i) ≡ []
unfolding parts_from
parts_end size list i n h = let e : n - i ≡ 0 = omega arith in rw e

-- the parts behind a first one are those of what is behind it
pub parts_behind : (size : ℕ) (b l : List ℕ) → length b ≡ size → (i n : ℕ) → parts_from size (b ++ l) (suc i) n ≡ parts_from size l i n
unfolding parts_from
parts_behind size b l e i zero = refl
parts_behind size b l e i (suc n) = λ t. take size (past t) ∷ parts_behind size b l e (suc i) n t
  where
    past : drop (suc i * size) (b ++ l) ≡ drop (i * size) l
    past =
        let k : suc i * size ≡ size + i * size = omega (arith, suc-mul i size) in
        ap (λ (m : ℕ). drop m (b ++ l)) k ∙ sym (drop-drop (i * size) size (b ++ l)) ∙ ap (drop (i * size)) (drop_at b l size e)

length_from : (size : ℕ) (list : List ℕ) (i n : ℕ) → length (parts_from size list i n) ≡ n
unfolding parts_from
length_from size list i zero = refl
length_from size list i (suc n) = ap suc (length_from size list (suc i) n)

pub length_parts : (size : ℕ) (list : List ℕ) → length (parts_of size list) ≡ length list / size
unfolding parts_of
length_parts size list = length_from size list 0 (length list / size)

-- each part's numbers are below the limit
unfoldable pub EachBelow : ℕ → List (List ℕ) → Type 0
EachBelow limit [] = Unit {0}
EachBelow limit (b ∷ bs) = AllBelow limit b × EachBelow limit bs

below_from : (limit size : ℕ) (list : List ℕ) → AllBelow limit list → (i n : ℕ) → EachBelow limit (parts_from size list i n)
unfolding parts_from EachBelow
below_from limit size list h i zero = tt
below_from limit size list h i (suc n) =
    (below_take limit size (drop (i * size) list) (below_drop limit (i * size) list h), below_from limit size list h (suc i) n)

pub below_parts : (limit size : ℕ) (list : List ℕ) → AllBelow limit list → EachBelow limit (parts_of size list)
unfolding parts_of
below_parts limit size list h = below_from limit size list h 0 (length list / size)
