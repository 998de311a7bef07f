-- Storing records one by one, i of them stored.
use Prim.Native.Nat.{ℕ, zero, suc, ◌+◌, ◌*◌, ◌<◌, ◌≤◌}
use mathlib.Core.Path.{◌≡◌, refl, sym, ap, ◌∙◌}
use mathlib.Core.List.{List, [], ◌∷◌}
use native.Mathlib.Numerals.{add-one}
use native.Mathlib.Omega.{arith}
use lib.ListN.{length, get_or, drop, drop_of_length-le}
use lib.Seq.{sets, length-sets}
use Rattle.record.specs.Bytes.{four_bytes}
use Rattle.record.specs.Record.{record_with, stream_bytes}
use Rattle.record.specs.declared.Record.{Record}
use Rattle.record.proofs.Stores.{record_stored, stream_stored}
use Rattle.compiler.specs.Stream.{records_with, data_records}

-- what is left to store, done to the buffer now, is the whole done to the buffer at entry
pub record Putting (rs : List Record) (at : ℕ) (buffer₀ buffer : List ℕ) (i to : ℕ) : Type 0 where
  pub to_is : to ≡ at + 8 * i
  pub same : length buffer ≡ length buffer₀
  pub stored : sets buffer₀ at (stream_bytes rs) ≡ sets buffer to (stream_bytes (drop i rs))

module _ (rs : List Record) (at : ℕ) where
  pub putting_start : (buffer : List ℕ) → Putting rs at buffer buffer 0 at
  putting_start buffer = record { to_is = omega arith; same = refl; stored = refl }

  module _ (buffer₀ buffer : List ℕ) (i to : ℕ) (g : Putting rs at buffer₀ buffer i to) where
    -- the number and then the value of record i
    pub putting_turn : (n v : ℕ) (l1 l2 : List ℕ) → drop i rs ≡ record_with n v ∷ drop (i + 1) rs → l1 ≡ sets buffer to (four_bytes n) → l2 ≡ sets l1 (to + 4) (four_bytes v) → Putting rs at buffer₀ l2 (i + 1) (to + 8)
    putting_turn n v l1 l2 d e f =
        record {
          to_is = omega (arith, g.to_is);
          same = ap (λ (l : List ℕ). length l) f ∙ length-sets l1 (to + 4) (four_bytes v) ∙ ap (λ (l : List ℕ). length l) e ∙ length-sets buffer to (four_bytes n) ∙ g.same;
          stored =
              g.stored ∙ ap (λ (l : List Record). sets buffer to (stream_bytes l)) d ∙ stream_stored buffer to (record_with n v) (drop (i + 1) rs)
              ∙ ap (λ (l : List ℕ). sets l (to + 8) (stream_bytes (drop (i + 1) rs))) (sym (record_stored buffer to (record_with n v) e f));
        }

    pub putting_end : length rs ≤ i → buffer ≡ sets buffer₀ at (stream_bytes rs)
    unfolding stream_bytes
    putting_end h = sym (g.stored ∙ ap (λ (l : List Record). sets buffer to (stream_bytes l)) (drop_of_length-le rs {i = i} h))

-- record i of register numbers and their values
pub with_at : (ns vs : List ℕ) (i : ℕ) → length ns ≡ length vs → i < length vs → drop i (records_with ns vs) ≡ record_with (get_or ns i 0) (get_or vs i 0) ∷ drop (i + 1) (records_with ns vs)
unfolding records_with
with_at [] vs i e h = absurd (omega arith)
with_at (n ∷ ns) [] i e h = absurd (omega arith)
with_at (n ∷ ns) (v ∷ vs) zero e h = refl
with_at (n ∷ ns) (v ∷ vs) (suc i) e h = rw add-one (with_at ns vs i (omega arith) (omega arith) ∙ (rw add-one))

pub length_with : (ns vs : List ℕ) → length ns ≡ length vs → length (records_with ns vs) ≡ length vs
unfolding records_with
length_with [] vs e = e
length_with (n ∷ ns) [] e = refl
length_with (n ∷ ns) (v ∷ vs) e = ap suc (length_with ns vs (omega arith))

-- record i of data words
pub data_at : (ws : List ℕ) (i : ℕ) → i < length ws → drop i (data_records ws) ≡ record_with 0x10000 (get_or ws i 0) ∷ drop (i + 1) (data_records ws)
unfolding data_records
data_at [] i h = absurd (omega arith)
data_at (w ∷ ws) zero h = refl
data_at (w ∷ ws) (suc i) h = rw add-one (data_at ws i (omega arith) ∙ (rw add-one))
