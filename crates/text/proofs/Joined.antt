-- Storing blocks of k numbers one behind the other.
use Prim.Native.Nat.{ℕ, zero, suc, ◌+◌, ◌*◌, ◌<◌, ◌≤◌}
use mathlib.Core.Path.{◌≡◌, refl, sym, ap, ◌∙◌}
use mathlib.Core.List.{List, ◌++◌}
use native.Mathlib.Numerals.{add-one}
use native.Mathlib.Nat.{zero-add, mul-zero, mul-suc, one-mul}
use native.Mathlib.Omega.{arith}
use lib.ListN.{length, length-append, set}
use lib.Seq.{sets, length-sets}
use Rattle.record.proofs.Stores.{sets_append}
use Rattle.io.specs.Digits.{last_digits}
use Rattle.record.specs.Bytes.{byte_at, u16_at}
use Rattle.record.specs.Record.{record_at}
use Rattle.record.specs.declared.Record.{Record}
use Rattle.text.specs.Text.{letters}
use Rattle.text.specs.Lines.{joined, record_line, stream_line, hex_byte, word_of}

-- ---- blocks
-- i of n blocks are stored
pub record Filling (f : ℕ → List ℕ) (n : ℕ) (old l : List ℕ) (i : ℕ) : Type 0 where
  pub within : i ≤ n
  pub same : length l ≡ length old
  pub stored : l ≡ sets old 0 (joined f i)

pub fill_start : (f : ℕ → List ℕ) (n : ℕ) (old : List ℕ) → Filling f n old old 0
unfolding joined
fill_start f n old = record { within = omega arith; same = refl; stored = refl }

module _ (k : ℕ) (f : ℕ → List ℕ) (size : (i : ℕ) → length (f i) ≡ k) where
  length_joined : (n : ℕ) → length (joined f n) ≡ k * n
  unfolding joined
  length_joined zero = sym (mul-zero k)
  length_joined (suc n) = length-append (joined f n) (f n) ∙ rw (length_joined n, size n, mul-suc)

  block : (old l : List ℕ) (i : ℕ) → l ≡ sets old 0 (joined f i) → sets l (k * i) (f i) ≡ sets old 0 (joined f (i + 1))
  unfolding joined
  block old l i e = rw (add-one, sets_append, zero-add, length_joined i, e)

  -- block i behind the i blocks before it
  pub fill_turn : (n : ℕ) (old l new : List ℕ) (i : ℕ) → Filling f n old l i → i < n → new ≡ sets l (k * i) (f i) → Filling f n old new (i + 1)
  fill_turn n old l new i g h e =
      record {
        within = omega arith;
        same = ap (λ (x : List ℕ). length x) e ∙ length-sets l (k * i) (f i) ∙ g.same;
        stored = e ∙ block old l i g.stored;
      }

-- all are stored: how many there are, and what the text holds
pub fill_end : (f : ℕ → List ℕ) (n m : ℕ) (old l : List ℕ) (i : ℕ) → Filling f n old l i → n ≤ i → n ≡ m → l ≡ sets old 0 (joined f m)
fill_end f n m old l i g h e =
    let p : i ≡ m = omega (arith, g.within) in
    g.stored ∙ ap (λ (x : ℕ). sets old 0 (joined f x)) p

-- ---- the blocks
pub length_line : (stream : List ℕ) (i : ℕ) → length (stream_line stream i) ≡ 18
unfolding stream_line record_line
length_line stream i = refl

pub length_byte : (bytes : List ℕ) (i : ℕ) → length (hex_byte bytes i) ≡ 3
unfolding hex_byte
length_byte bytes i = refl

pub length_word : (bytes : List ℕ) (i : ℕ) → length (word_of bytes i) ≡ 1
unfolding word_of
length_word bytes i = refl

pub line_of : (stream : List ℕ) (i at : ℕ) (r : Record) (old new : List ℕ) → r ≡ record_at stream i → new ≡ sets old at (record_line r) → new ≡ sets old at (stream_line stream i)
unfolding stream_line
line_of stream i at r old new p e = e ∙ ap (λ (x : Record). sets old at (record_line x)) p

pub byte_of : (bytes : List ℕ) (i at : ℕ) (old new : List ℕ) → new ≡ sets old at (last_digits 16 2 (byte_at bytes i) ++ letters " ") → new ≡ sets old at (hex_byte bytes i)
unfolding hex_byte
byte_of bytes i at old new e = e

pub word_of_lem : (bytes : List ℕ) (i v : ℕ) (old : List ℕ) → v ≡ u16_at bytes (2 * i) → set old i v ≡ sets old (1 * i) (word_of bytes i)
unfolding word_of
word_of_lem bytes i v old e = rw (one-mul, e)
