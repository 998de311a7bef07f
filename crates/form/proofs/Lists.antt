-- Records one behind another and their parts; a turned list's length and parts, and that it is a list.
use Prim.Native.Nat.{ℕ, zero, suc, ◌+◌, ◌-◌, ◌*◌, ◌/◌, ◌%◌, ◌<◌, ◌≤◌}
use mathlib.Core.Path.{◌≡◌, refl, sym, ap, ◌∙◌}
use mathlib.Core.List.{List, [], ◌∷◌, ◌++◌, map}
use mathlib.Core.Bool.{true}
use native.Mathlib.Nat.{add-zero, zero-add, zero-mul, suc-mul, mul-div_cancel, mul-mod_left, mul-le-mul_right, div-add-mod'}
use native.Mathlib.Omega.{arith}
use lib.ListN.{length, get_or, take, drop, replicate, length-append, length-replicate, length-map}
use lib.Seq.{length-take-le, take-add, take_all, drop-drop, take_at}
use borrow.Author.Tests.{eq-eqb, le-leb}
use Rattle.record.specs.Lists.{parts_from, parts_of}
use Rattle.record.proofs.Lists.{length_parts, parts_behind}
use Rattle.record.proofs.Choice.{and_go}
use Rattle.command.specs.Task.{short_form, is_form, is_list}
use Rattle.command.proofs.Forms.{form_least, list_is, count_most, length_part}
use Rattle.form.specs.Turn.{record_in, list_of, turned_list}

-- each of the records has so many bytes
unfoldable pub Each : ℕ → List (List ℕ) → Type 0
Each size [] = Unit {0}
Each size (b ∷ bs) = (length b ≡ size) × Each size bs

-- ---- lengths
each_from : (size : ℕ) (list : List ℕ) (i n : ℕ) → i + n ≤ length list / size → Each size (parts_from size list i n)
unfolding parts_from Each
each_from size list i zero h = tt
each_from size list i (suc n) h = (length_part size list i (omega arith), each_from size list (suc i) n (omega arith))

pub each_part : (size : ℕ) (list : List ℕ) → Each size (parts_of size list)
unfolding parts_of
each_part size list = each_from size list 0 (length list / size) (omega arith)

pub length_in_form : (form : ℕ) (b : List ℕ) → short_form ≤ form → short_form ≤ length b → length (record_in form b) ≡ form
length_in_form form b h k =
    omega (arith, length-append (take short_form b) (replicate (form - short_form) 0), length-take-le short_form b k, length-replicate {A = ℕ} (form - short_form) 0)

pub each_turned : (from to : ℕ) (bs : List (List ℕ)) → short_form ≤ from → short_form ≤ to → Each from bs → Each to (map (record_in to) bs)
unfolding Each
each_turned from to [] h k e = tt
each_turned from to (b ∷ bs) h k e = (length_in_form to b k (omega (arith, e.0)), each_turned from to bs h k e.1)

pub length_list : (size : ℕ) (bs : List (List ℕ)) → Each size bs → length (list_of bs) ≡ length bs * size
unfolding Each list_of
length_list size [] e = sym (zero-mul size)
length_list size (b ∷ bs) e = omega (arith, length-append b (list_of bs), e.0, length_list size bs e.1, suc-mul (length bs) size)

pub length_turned : (from to : ℕ) (list : List ℕ) → is_form from ≡ true → is_form to ≡ true → length (turned_list from to list) ≡ length list / from * to
unfolding turned_list
length_turned from to list h k =
    length_list to (map (record_in to) (parts_of from list)) (each_turned from to (parts_of from list) (form_least from h) (form_least to k) (each_part from list))
    ∙ ap (λ (n : ℕ). n * to) (length-map (parts_of from list) (record_in to) ∙ length_parts from list)

-- ---- the parts of records one behind another are these records
from_back : (size : ℕ) (bs : List (List ℕ)) → Each size bs → parts_from size (list_of bs) 0 (length bs) ≡ bs
unfolding parts_from Each list_of
from_back size [] e = refl
from_back size (b ∷ bs) e = λ t. first t ∷ (parts_behind size b (list_of bs) e.0 0 (length bs) ∙ from_back size bs e.1) t
  where
    first : take size (drop (0 * size) (b ++ list_of bs)) ≡ b
    first = ap (λ (m : ℕ). take size (drop m (b ++ list_of bs))) (zero-mul size) ∙ take_at b (list_of bs) size e.0

pub parts_back : (size : ℕ) (bs : List (List ℕ)) → 0 < size → Each size bs → parts_of size (list_of bs) ≡ bs
unfolding parts_of
parts_back size bs h e =
    ap (parts_from size (list_of bs) 0) (ap (λ (n : ℕ). n / size) (length_list size bs e) ∙ mul-div_cancel (length bs) h) ∙ from_back size bs e

-- ---- a list of whole records is its parts one behind another
list_from : (size : ℕ) (list : List ℕ) (i n : ℕ) → list_of (parts_from size list i n) ≡ take (n * size) (drop (i * size) list)
unfolding parts_from list_of
list_from size list i zero = ap (λ (m : ℕ). take m (drop (i * size) list)) (sym (zero-mul size))
list_from size list i (suc n) =
    let next : i * size + size ≡ suc i * size = omega (arith, suc-mul i size) in
    let more : size + n * size ≡ suc n * size = omega (arith, suc-mul n size) in
    ap (λ (l : List ℕ). take size (drop (i * size) list) ++ l)
    (list_from size list (suc i) n ∙ ap (take (n * size)) (ap (λ (m : ℕ). drop m list) (sym next) ∙ sym (drop-drop size (i * size) list)))
    ∙ sym (take-add size (n * size) (drop (i * size) list))
    ∙ ap (λ (m : ℕ). take m (drop (i * size) list)) more

pub list_back : (size : ℕ) (list : List ℕ) → length list % size ≡ 0 → list_of (parts_of size list) ≡ list
unfolding parts_of
list_back size list e =
    list_from size list 0 (length list / size)
    ∙ ap (λ (m : ℕ). take (length list / size * size) (drop m list)) (zero-mul size)
    ∙ take_all (length list / size * size) list (omega (arith, div-add-mod' (length list) size))

-- ---- a part by its place
part_from_lem : (size : ℕ) (list : List ℕ) (k i n : ℕ) (d : List ℕ) → i < n → get_or (parts_from size list k n) i d ≡ take size (drop ((k + i) * size) list)
unfolding parts_from
part_from_lem size list k i zero d h = absurd (omega arith)
part_from_lem size list k zero (suc n) d h = ap (λ (j : ℕ). take size (drop (j * size) list)) (sym (add-zero k))
part_from_lem size list k (suc i) (suc n) d h =
    let e : suc k + i ≡ k + suc i = omega arith in
    part_from_lem size list (suc k) i n d (omega arith) ∙ ap (λ (j : ℕ). take size (drop (j * size) list)) e

pub part_at : (size : ℕ) (list : List ℕ) (i : ℕ) (d : List ℕ) → i < length list / size → get_or (parts_of size list) i d ≡ take size (drop (i * size) list)
unfolding parts_of
part_at size list i d h = part_from_lem size list 0 i (length list / size) d h ∙ ap (λ (j : ℕ). take size (drop (j * size) list)) (zero-add i)

-- ---- a turned list
module _ (from to : ℕ) (list : List ℕ) where
  -- its parts are the turned parts
  pub parts_turned : is_form from ≡ true → is_form to ≡ true → parts_of to (turned_list from to list) ≡ map (record_in to) (parts_of from list)
  unfolding turned_list
  parts_turned h k =
      let p = form_least from h in
      let q = form_least to k in
      parts_back to (map (record_in to) (parts_of from list)) (omega arith) (each_turned from to (parts_of from list) p q (each_part from list))

  -- and it is a list where the list is one
  pub list_turned : is_list from list ≡ true → is_form to ≡ true → is_list to (turned_list from to list) ≡ true
  list_turned h k =
      let l = list_is from list h in
      let n = length_turned from to list l.0 k in
      let c = count_most from (length list) l.2 in
      sym (and_go k (and_go (eq-eqb (length (turned_list from to list) % to) 0 (ap (λ (m : ℕ). m % to) n ∙ mul-mod_left (length list / from) to))
      (sym (le-leb (length (turned_list from to list)) (64 * to) (omega (arith, n, mul-le-mul_right to c))))))
