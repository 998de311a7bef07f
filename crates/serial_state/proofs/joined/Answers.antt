use mathlib.Core.Path.{◌≡◌, sym, ap, ◌∙◌}
use mathlib.Core.List.{List, ◌++◌}
use Prim.Native.Nat.{ℕ, ◌+◌, ◌<◌}
use native.Mathlib.Nat.{zero-add}
use native.Mathlib.Numerals.{add-one}
use native.Mathlib.Omega.{arith}
use lib.ListN.{length, take, set, replicate, length-replicate}
use lib.Seq.{paste, paste-zero, paste-suc}
use Rattle.record.specs.Bytes.{byte_at}
use Rattle.serial.proofs.Half.{length_joined}
use Rattle.serial_state.proofs.joined.Goals as goal

-- one byte more stands over the zeros
next : (n : ℕ) (xs : List ℕ) (i : ℕ) → i < n → i < length xs → set (paste (replicate n 0) 0 xs i) i (byte_at xs i) ≡ paste (replicate n 0) 0 xs (i + 1)
next n xs i h k =
    ap (λ (j : ℕ). set (paste (replicate n 0) 0 xs i) j (byte_at xs i)) (sym (zero-add i))
    ∙ paste-suc (replicate n 0) 0 xs i 0 (omega (arith, h, length-replicate {A = ℕ} n 0)) k
    ∙ ap (λ (j : ℕ). paste (replicate n 0) 0 xs j) (sym (add-one i))

pub loop-i-init : goal.loop-i-init
loop-i-init g c = let a = c.args in paste-zero (replicate g.row.N 0) 0 (take a.held a.half ++ a.block.now)

pub loop-i-preserved : goal.loop-i-preserved
loop-i-preserved g c = let a = c.args in
    let l = c.loop-i in
    (λ t. set (l.invariant t) l.i (c.joined_byte.ensures t))
    ∙ next g.row.N (take a.held a.half ++ a.block.now) l.i (omega arith) (omega (arith, length_joined a.half a.block.now a.held (omega arith)))
