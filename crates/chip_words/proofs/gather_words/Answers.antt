use Prim.Native.Nat.{◌+◌, ◌*◌}
use mathlib.Core.Path.{sym, subst}
use mathlib.Core.List.{List}
use Prim.Native.Nat.{ℕ}
use native.Mathlib.Omega.{arith}
use lib.ListN.{get_or, set}
use Rattle.chip_words.proofs.Gathered.{Gathering, gather_start, gather_step, gather_end}
use Rattle.chip_words.proofs.gather_words.Goals as goal

pub loop-k-init : goal.loop-k-init
loop-k-init c = gather_start _ _ _ _

pub loop-k-preserved : goal.loop-k-preserved
loop-k-preserved c = let a = c.args in
    let l = c.loop-k in
    subst
    (λ (word : List ℕ). Gathering a.stream.now a.i a.n a.line.now (l.k + 1) (set (set l.line (2 * l.k) (get_or word 0 0)) (2 * l.k + 1) (get_or word 1 0)))
    (sym c.to_le_bytes-word.ensures)
    (gather_step a.stream.now a.i a.n a.line.now l.k l.line c.record_at-r.result c.loop-k-test.true c.record_at-r.ensures l.invariant)

pub returns : goal.returns
returns c = let a = c.args in
    let l = c.loop-k in
    gather_end a.stream.now a.i a.n a.line.now l.k l.line (omega arith) l.invariant
