-- The half-read record with the bytes of a block behind it, as the code puts them together.
use Prim.Native.Nat.{ℕ, ◌+◌, ◌-◌, ◌≤◌, ◌<◌}
use mathlib.Core.Path.{◌≡◌, sym, ap, ◌∙◌}
use mathlib.Core.List.{List, ◌++◌}
use native.Mathlib.Nat.{zero-add}
use native.Mathlib.Numerals.{add-one}
use native.Mathlib.Omega.{arith}
use lib.ListN.{length, take, drop, set, replicate, length-append, get_or-append}
use lib.Seq.{paste, paste-zero, paste-suc, get_or-take, get_or-append-add, length-take-le, take-length}
use Rattle.record.specs.Bytes.{byte_at, over}

module _ (half block : List ℕ) (held : ℕ) (h : held ≤ length half) where
  abbrev both : List ℕ
  both = take held half ++ block

  abbrev zeros : List ℕ
  zeros = replicate 7 0

  cut : length (take held half) ≡ held
  cut = length-take-le held half h

  pub length_joined : length both ≡ held + length block
  length_joined = length-append (take held half) block ∙ ap (λ (k : ℕ). k + length block) cut

  pub byte_held : (i : ℕ) → i < held → byte_at half i ≡ byte_at both i
  byte_held i k = sym (get_or-append (take held half) block 0 i (omega (arith, cut)) ∙ get_or-take held half i 0 k)

  pub byte_behind : (i : ℕ) → held ≤ i → byte_at block (i - held) ≡ byte_at both i
  byte_behind i k =
      let e : length (take held half) + (i - held) ≡ i = omega (arith, cut) in
      sym (get_or-append-add (take held half) block (i - held) 0) ∙ ap (λ (j : ℕ). byte_at both j) e

  -- the loop that stores these bytes over zeros
  pub half_start : zeros ≡ paste zeros 0 both 0
  half_start = paste-zero zeros 0 both

  pub half_next : (i : ℕ) → i < held + length block → held + length block ≤ 7 → set (paste zeros 0 both i) i (byte_at both i) ≡ paste zeros 0 both (i + 1)
  half_next i k few =
      ap (λ (j : ℕ). set (paste zeros 0 both i) j (byte_at both i)) (sym (zero-add i))
      ∙ paste-suc zeros 0 both i 0 (omega arith) (omega (arith, length_joined))
      ∙ ap (λ (j : ℕ). paste zeros 0 both j) (sym (add-one i))

  pub half_end : paste zeros 0 both (held + length block) ≡ over both zeros
  half_end =
      ap (λ (j : ℕ). paste zeros 0 both j) (sym length_joined)
      ∙ (λ t. take-length both t ++ drop (zero-add (length both) t) zeros)
