-- The loops of turning a list, after i steps: over its records, which stay long or are stored, and over the bytes of one.
use Prim.Native.Nat.{ℕ, zero, suc, ◌+◌, ◌-◌, ◌*◌, ◌/◌, ◌<◌, ◌≤◌}
use mathlib.Core.Path.{◌≡◌, refl, sym, ap, ◌∙◌}
use mathlib.Core.Bool.{Bool, true, false, not, ◌||◌}
use mathlib.Core.List.{List, [], ◌∷◌, ◌++◌, map, append-nil}
use mathlib.Core.Logic.{⊎_elim}
use native.Mathlib.Nat.{add-zero, zero-add, suc-add, zero-mul, sub-zero, add-sub_cancel_left, mul-le-mul_right, suc-mul}
use native.Mathlib.Numerals.{add-one}
use native.Mathlib.Omega.{arith}
use lib.ListN.{length, get_or, set, take, drop, replicate, length-set, drop_of_length-le}
use lib.Seq.{sets, length-sets, drop-cons, drop-drop, take-nil, get_or-take, get_or-drop, length-take-le}
use lib.Dec.{ltb}
use Rattle.record.specs.Bytes.{byte_at, all_zero}
use Rattle.record.specs.Lists.{parts_from, parts_of}
use Rattle.record.proofs.Lists.{parts_step, parts_end}
use Rattle.record.proofs.Stores.{sets_append, sets_over}
use Rattle.command.specs.Task.{short_form, long_form, is_form}
use Rattle.command.proofs.Forms.{form_is, form_least, length_part}
use Rattle.form.specs.Turn.{record_in, list_of, turned_list, stays_long, any_stays_long}
use Rattle.form.proofs.Lists.{length_in_form}

-- ---- which records stay long
-- the bytes from m on of the first m + n
drop_first : (m n : ℕ) (l : List ℕ) → drop m (take (m + n) l) ≡ take n (drop m l)
drop_first zero n l = rw zero-add
drop_first (suc m) n [] = rw (suc-add, take-nil)
drop_first (suc m) n (x ∷ l) = rw suc-add (drop_first m n l)

module _ (size : ℕ) (list : List ℕ) where
  pub record Asking (count : ℕ) (any : Bool) (i : ℕ) : Type 0 where
    pub count_is : count ≡ length list / size
    pub within : i ≤ count
    pub left : any_stays_long (parts_of size list) ≡ (any || any_stays_long (parts_from size list i (count - i)))

  pub asking_start : Asking (length list / size) false 0
  unfolding parts_of
  asking_start = record { count_is = refl; within = omega arith; left = rw sub-zero }

  any_step : (any : Bool) (b : List ℕ) (bs : List (List ℕ)) → (any || any_stays_long (b ∷ bs)) ≡ ((any || stays_long b) || any_stays_long bs)
  unfolding any_stays_long
  any_step true b bs = refl
  any_step false b bs = refl

  any_end : (any : Bool) → (any || any_stays_long []) ≡ any
  unfolding any_stays_long
  any_end true = refl
  any_end false = refl

  -- record i as the code reads it: its first byte, and those from 32 on
  stays_at : (i : ℕ) → short_form ≤ size → stays_long (take size (drop (i * size) list)) ≡ (ltb 2 (byte_at list (i * size)) || not (all_zero (take (i * size + size - (i * size + 32)) (drop (i * size + 32) list))))
  stays_at i h =
      let a = i * size in
      let e : size ≡ 32 + (a + size - (a + 32)) = omega arith in
      let first : byte_at (take size (drop a list)) 0 ≡ byte_at list a = get_or-take size (drop a list) 0 0 (omega arith) ∙ get_or-drop a list 0 0 ∙ ap (λ (k : ℕ). byte_at list k) (add-zero a) in
      let rest : drop 32 (take size (drop a list)) ≡ take (a + size - (a + 32)) (drop (a + 32) list) =
      ap (λ (k : ℕ). drop 32 (take k (drop a list))) e ∙ drop_first 32 (a + size - (a + 32)) (drop a list) ∙ ap (λ (l : List ℕ). take (a + size - (a + 32)) l) (drop-drop 32 a list) in
      λ t. ltb 2 (first t) || not (all_zero (rest t))

  module _ (count : ℕ) (any : Bool) (i : ℕ) (g : Asking count any i) where
    pub asking_turn : short_form ≤ size → i < count → (zeros : Bool) → zeros ≡ all_zero (take (i * size + size - (i * size + 32)) (drop (i * size + 32) list))
        → Asking count (any || (ltb 2 (byte_at list (i * size)) || not zeros)) (i + 1)
    asking_turn f h zeros e =
        record {
          count_is = g.count_is;
          within = omega arith;
          left =
              g.left ∙ ap (λ (bs : List (List ℕ)). any || any_stays_long bs) (parts_step size list i count h)
              ∙ any_step any (take size (drop (i * size) list)) (parts_from size list (i + 1) (count - (i + 1)))
              ∙ (rw (stays_at i f, ← e));
        }

    pub asking_end : count ≤ i → any ≡ any_stays_long (parts_of size list)
    asking_end h = sym (g.left ∙ ap (λ (bs : List (List ℕ)). any || any_stays_long bs) (parts_end size list i count h) ∙ any_end any)

-- ---- storing bytes, one by one
module _ (bytes : List ℕ) (target₀ : List ℕ) (at : ℕ) where
  pub record Storing (target : List ℕ) (i : ℕ) : Type 0 where
    pub within : i ≤ length bytes
    pub same : length target ≡ length target₀
    pub stored : sets target₀ at bytes ≡ sets target (at + i) (drop i bytes)

  pub storing_start : Storing target₀ 0
  storing_start = record { within = omega arith; same = refl; stored = rw add-zero }

  module _ (target : List ℕ) (i : ℕ) (g : Storing target i) where
    pub storing_turn : i < length bytes → (v : ℕ) → v ≡ get_or bytes i 0 → Storing (set target (at + i) v) (i + 1)
    storing_turn h v p =
        let e : at + (i + 1) ≡ suc (at + i) = omega arith in
        record {
          within = omega arith;
          same = length-set target (at + i) v ∙ g.same;
          stored = g.stored ∙ (rw (drop-cons bytes i 0 h, ← p, e, add-one));
        }

    pub storing_end : length bytes ≤ i → target ≡ sets target₀ at bytes
    storing_end h = sym (g.stored ∙ (rw (drop_of_length-le bytes h)))

-- ---- storing records
-- bytes stored over as many
pub all_stored : (l b : List ℕ) → length b ≡ length l → sets l 0 b ≡ b
all_stored l b h = sets_over l b (omega (arith, h)) ∙ ap (λ (x : List ℕ). b ++ x) (drop_of_length-le l {i = length b} (omega (arith, h))) ∙ append-nil b

-- one: its 32 bytes, and zeros behind them
record_stored : (l b : List ℕ) (at form : ℕ) → short_form ≤ length b → {l1 l2 : List ℕ} → l1 ≡ sets l at (take short_form b) → l2 ≡ sets l1 (at + short_form) (replicate (form - short_form) 0) → l2 ≡ sets l at (record_in form b)
record_stored l b at form h e f = f ∙ (rw (e, sets_append, length-take-le short_form b h))

-- a short record is stored with its 32 bytes, a long one with 16 zeros behind them
pub short_stored : (l b : List ℕ) (at form : ℕ) → is_form form ≡ true → (form ≡ long_form → ⊥) → {l1 : List ℕ} → l1 ≡ sets l at (take short_form b) → l1 ≡ sets l at (record_in form b)
short_stored l b at form f h e =
    let k : form ≡ short_form = ⊎_elim (λ p. p) (λ p. absurd (h p)) (form_is form f) in
    rw k (e ∙ ap (λ (x : List ℕ). sets l at x) (sym (append-nil (take short_form b))))

pub long_stored : (l b : List ℕ) (at form : ℕ) → form ≡ long_form → short_form ≤ length b → {l1 l2 : List ℕ} → l1 ≡ sets l at (take short_form b) → l2 ≡ sets l1 (at + short_form) (replicate 16 0) → l2 ≡ sets l at (record_in form b)
long_stored l b at form k h e f = rw k (record_stored l b at long_form h e f)

-- part i of a list, as the code lends it on, has the bytes of a short record
pub part_least : (size : ℕ) (list : List ℕ) (i : ℕ) → is_form size ≡ true → i < length list / size → short_form ≤ length (take (i * size + size - i * size) (drop (i * size) list))
part_least size list i f h = rw add-sub_cancel_left (omega (arith, form_least size f, length_part size list i h))

module _ (from to : ℕ) (list : List ℕ) where
  -- the bytes of the turned records from i on
  abbrev left_at : ℕ → ℕ → List ℕ
  left_at count i = list_of (map (record_in to) (parts_from from list i (count - i)))

  pub record Putting (target₀ target : List ℕ) (count i : ℕ) : Type 0 where
    pub count_is : count ≡ length list / from
    pub within : i ≤ count
    pub same : length target ≡ length target₀
    pub stored : sets target₀ 0 (turned_list from to list) ≡ sets target (i * to) (left_at count i)

  pub putting_start : (target : List ℕ) → Putting target target (length list / from) 0
  unfolding parts_of turned_list
  putting_start target = record { count_is = refl; within = omega arith; same = refl; stored = rw (sub-zero, zero-mul) }

  list_step : (b : List ℕ) (bs : List (List ℕ)) → list_of (map (record_in to) (b ∷ bs)) ≡ record_in to b ++ list_of (map (record_in to) bs)
  unfolding list_of
  list_step b bs = refl

  list_end : list_of (map (record_in to) []) ≡ []
  unfolding list_of
  list_end = refl

  module _ (target₀ target : List ℕ) (count i : ℕ) (g : Putting target₀ target count i) where
    module _ (h : i < count) where
      pub room_left : length list / from * to ≤ length target₀ → i * to + to ≤ length target
      room_left q = omega (arith, q, g.same, suc-mul i to, mul-le-mul_right to h, ap (λ (n : ℕ). n * to) g.count_is)

      pub putting_turn : is_form from ≡ true → is_form to ≡ true → (new : List ℕ)
          → new ≡ sets target (i * to) (record_in to (take (i * from + from - i * from) (drop (i * from) list))) → Putting target₀ new count (i + 1)
      putting_turn p q new e =
          let b = take from (drop (i * from) list) in
          let k : length b ≡ from = length_part from list i (omega (arith, g.count_is)) in
          let n : length (record_in to b) ≡ to = length_in_form to b (form_least to q) (omega (arith, form_least from p)) in
          let f : new ≡ sets target (i * to) (record_in to b) = e ∙ (rw add-sub_cancel_left) in
          let m : i * to + to ≡ (i + 1) * to = omega (arith, suc-mul i to, add-one i) in
          record {
            count_is = g.count_is;
            within = omega arith;
            same = ap (λ (l : List ℕ). length l) f ∙ length-sets target (i * to) (record_in to b) ∙ g.same;
            stored = g.stored ∙ (rw (parts_step from list i count h, list_step, sets_append, ← f, n, m));
          }

    pub putting_end : count ≤ i → target ≡ sets target₀ 0 (turned_list from to list)
    putting_end h = sym (g.stored ∙ (rw (parts_end from list i count h, list_end)))
