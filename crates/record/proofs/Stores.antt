-- Laws on runs of stores, and on the lengths of a stream's parts.
use Prim.Native.Nat.{ℕ, suc, ◌+◌, ◌-◌, ◌*◌, ◌≤◌}
use mathlib.Core.Path.{◌≡◌, refl, sym, ap, ◌∙◌}
use mathlib.Core.List.{List, [], ◌∷◌, ◌++◌, append_assoc}
use native.Mathlib.Nat.{add-zero, zero-add, add-suc, suc-add}
use native.Mathlib.Omega.{arith}
use borrow.Rule.Slice.PartMut.{put_mid}
use lib.ListN.{length, set, drop, length-append}
use lib.Seq.{sets, sets-eq, length-sets, drop-drop}
use Rattle.record.specs.Bytes.{four_bytes, over}
use Rattle.record.specs.Record.{record_bytes, stream_bytes}
use Rattle.record.specs.declared.Record.{Record}

-- storing a and then b behind it is storing a ++ b; no bound is asked
pub sets_append : (l : List ℕ) (i : ℕ) (a b : List ℕ) → sets l i (a ++ b) ≡ sets (sets l i a) (i + length a) b
sets_append l i [] b = rw add-zero
sets_append l i (x ∷ a) b = rw (add-suc, ← suc-add) (sets_append (set l i x) (suc i) a b)

-- four stores at at, at + 1, ..
pub sets_four : (l : List ℕ) (at a b c d : ℕ) → set (set (set (set l at a) (at + 1) b) (at + 2) c) (at + 3) d ≡ sets l at (a ∷ b ∷ c ∷ d ∷ [])
sets_four l at a b c d =
    let e1 : at + 1 ≡ suc at = omega arith in
    let e2 : at + 2 ≡ suc (suc at) = omega arith in
    let e3 : at + 3 ≡ suc (suc (suc at)) = omega arith in
    simp (e1, e2, e3)

-- a part that comes back: what was before it, the part, what is behind it
pub part_put : (l : List ℕ) (at e : ℕ) (vs : List ℕ) → at ≤ e → e ≤ length l → length vs ≡ e - at → put_mid at (e - at) l vs ≡ sets l at vs
part_put l at e vs h k f = rw (← f, drop-drop, ← append_assoc) (sym (sets-eq vs l at (omega arith)))

-- stores from the start on
pub sets_over : (old b : List ℕ) → length b ≤ length old → sets old 0 b ≡ over b old
sets_over old b h = sets-eq b old 0 (omega arith) ∙ ap (λ (n : ℕ). b ++ drop n old) (zero-add (length b))

pub length_over : (old b : List ℕ) → length b ≤ length old → length (over b old) ≡ length old
length_over old b h = ap (λ (l : List ℕ). length l) (sym (sets_over old b h)) ∙ length-sets old 0 b

-- ---- the bytes of records
pub length_record : (r : Record) → length (record_bytes r) ≡ 8
unfolding record_bytes
length_record r = refl

-- the number and then the value behind it are the record
pub record_stored : (l : List ℕ) (at : ℕ) (r : Record) {l1 l2 : List ℕ} → l1 ≡ sets l at (four_bytes r.number) → l2 ≡ sets l1 (at + 4) (four_bytes r.value) → l2 ≡ sets l at (record_bytes r)
unfolding record_bytes
record_stored l at r e f = f ∙ ap (λ (x : List ℕ). sets x (at + 4) (four_bytes r.value)) e ∙ sym (sets_append l at (four_bytes r.number) (four_bytes r.value))

pub length_stream : (rs : List Record) → length (stream_bytes rs) ≡ 8 * length rs
unfolding stream_bytes
length_stream [] = refl
length_stream (r ∷ rs) = simp (length-append, length_record, length_stream rs) (omega arith)

pub stream_append : (a b : List Record) → stream_bytes (a ++ b) ≡ stream_bytes a ++ stream_bytes b
unfolding stream_bytes
stream_append [] b = refl
stream_append (r ∷ a) b = ap (λ (l : List ℕ). record_bytes r ++ l) (stream_append a b) ∙ sym (append_assoc (record_bytes r) (stream_bytes a) (stream_bytes b))

-- the first record of those that are left to store
pub stream_stored : (l : List ℕ) (at : ℕ) (r : Record) (rs : List Record) → sets l at (stream_bytes (r ∷ rs)) ≡ sets (sets l at (record_bytes r)) (at + 8) (stream_bytes rs)
unfolding stream_bytes
stream_stored l at r rs = rw (sets_append, length_record)
