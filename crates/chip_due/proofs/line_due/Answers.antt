use native.Mathlib.Omega.{arith}
use Prim.Native.Nat.{◌-◌}
use Rattle.chip.specs.Words.{due_in_line}
use Rattle.chip_due.proofs.line_due.Goals as goal

pub returns : goal.returns
unfolding due_in_line
returns c = let d = c.args.d in
    let w = c.words_of.ensures in
    let l = c.words_before.ensures in
    ((λ t. w.0 t - l t), omega (arith, w, l), omega (arith, w))
