-- The forms of a list, and a list's parts in one of them.
use Prim.Native.Nat.{ℕ, ◌+◌, ◌-◌, ◌*◌, ◌/◌, ◌%◌, ◌<◌, ◌≤◌}
use mathlib.Core.Path.{◌≡◌, sym, ap, subst, ◌∙◌}
use mathlib.Core.List.{List}
use mathlib.Core.Bool.{true, ◌&&◌}
use mathlib.Core.Logic.{◌⊎◌, inl, inr, ⊎_elim}
use native.Mathlib.Nat.{add-sub_cancel_left, mul_comm, div-le_of_le-mul, div-mul-le_self, mul-le-mul_right, suc-mul}
use native.Mathlib.Omega.{arith}
use lib.ListN.{length, take, drop, length-drop}
use lib.Seq.{length-take-le, take_all}
use lib.Dec.{eqb, leb}
use borrow.Author.Tests.{eqb-true, leb-true}
use Rattle.record.specs.Bytes.{byte_at, u16_at, u32_at}
use Rattle.record.proofs.Lists.{nothing_past}
use Rattle.record.proofs.Choice.{and_left, and_right, or_elim}
use Rattle.command.specs.Task.{short_form, long_form, is_form, is_list}

-- ---- a form is one of two numbers
pub form_is : (n : ℕ) → is_form n ≡ true → (n ≡ short_form) ⊎ (n ≡ long_form)
form_is n e = or_elim (eqb n short_form) (eqb n long_form) e (λ p. inl (eqb-true n short_form p)) (λ p. inr (eqb-true n long_form p))

pub form_least : (n : ℕ) → is_form n ≡ true → short_form ≤ n
form_least n e = ⊎_elim (λ p. omega arith) (λ p. omega arith) (form_is n e)

pub form_most : (n : ℕ) → is_form n ≡ true → n ≤ long_form
form_most n e = ⊎_elim (λ p. omega arith) (λ p. omega arith) (form_is n e)

-- one that is not long is short
pub form_short : (n : ℕ) → is_form n ≡ true → n < long_form → n ≡ short_form
form_short n e h = ⊎_elim (λ p. p) (λ p. absurd (omega arith)) (form_is n e)

-- ---- past the end of a short record
module _ (b : List ℕ) (e : is_form (length b) ≡ true) (h : length b < long_form) where
  pub short_byte : (k : ℕ) → short_form ≤ k → 0 ≡ byte_at b k
  short_byte k l = sym (nothing_past b k (omega (arith, form_short (length b) e h)))

  pub short_u16 : (k : ℕ) → short_form ≤ k → 0 ≡ u16_at b k
  short_u16 k l = λ t. short_byte k l t + 256 * short_byte (k + 1) (omega arith) t

  pub short_u32 : (k : ℕ) → short_form ≤ k → 0 ≡ u32_at b k
  short_u32 k l = λ t. short_u16 k l t + 65536 * short_u16 (k + 2) (omega arith) t

-- ---- all of a record from byte k on
pub past_all : (k : ℕ) (b : List ℕ) → take (length b - k) (drop k b) ≡ drop k b
past_all k b = take_all (length b - k) (drop k b) (rw length-drop (omega arith))

-- ---- what row 10 asks
pub list_is : (form : ℕ) (list : List ℕ) → is_list form list ≡ true → (is_form form ≡ true) × (length list % form ≡ 0) × (length list ≤ 64 * form)
list_is form list e =
    let p = and_right (is_form form) (eqb (length list % form) 0 && leb (length list) (64 * form)) e in (
      and_left (is_form form) (eqb (length list % form) 0 && leb (length list) (64 * form)) e,
      eqb-true (length list % form) 0 (and_left (eqb (length list % form) 0) (leb (length list) (64 * form)) p),
      leb-true (length list) (64 * form) (and_right (eqb (length list % form) 0) (leb (length list) (64 * form)) p),
    )

-- ---- so many bytes have at most 64 parts
pub count_most : (form n : ℕ) → n ≤ 64 * form → n / form ≤ 64
count_most form n h = div-le_of_le-mul form (subst (λ (x : ℕ). n ≤ x) (mul_comm 64 form) h)

-- ---- part i of so many whole parts
pub part_ends : (size n i : ℕ) → i < n / size → i * size + size ≤ n
part_ends size n i h = omega (arith, suc-mul i size, mul-le-mul_right size h, div-mul-le_self n size)

pub length_part : (size : ℕ) (list : List ℕ) (i : ℕ) → i < length list / size → length (take size (drop (i * size) list)) ≡ size
length_part size list i h = length-take-le size (drop (i * size) list) (rw length-drop (omega (arith, part_ends size (length list) i h)))

-- the same as code has it, from the part's start to its end: a record in that form
pub part_formed : (form : ℕ) (list : List ℕ) (i : ℕ) → is_form form ≡ true → i < length list / form → is_form (length (take (i * form + form - i * form) (drop (i * form) list))) ≡ true
part_formed form list i e h =
    ap (λ (n : ℕ). is_form (length (take n (drop (i * form) list)))) (add-sub_cancel_left (i * form) form)
    ∙ ap is_form (length_part form list i h)
    ∙ e
