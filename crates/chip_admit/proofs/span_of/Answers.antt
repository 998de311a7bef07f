use Prim.Native.Nat.{◌*◌, ◌%◌, ◌≤◌}
use native.Mathlib.Nat.{mul-le-mul}
use native.Mathlib.Omega.{arith}
use Rattle.chip.specs.Start.{span}
use Rattle.chip_admit.proofs.span_of.Goals as goal

pub returns : goal.returns
unfolding span
returns c =
    -- the two products' bounds
    let lines : c.args.b.height % 1024 * c.line_of.result ≤ 1023 * 4094 = mul-le-mul {n₂ = 1023} {m₂ = 4094} (omega arith) (omega arith) in
    let pixels : c.args.b.width % 1024 * c.bytes_of.result ≤ 1023 * 2 = mul-le-mul {n₂ = 1023} {m₂ = 2} (omega arith) (omega arith) in
    (simp (c.bytes_of.ensures, c.line_of.ensures), omega arith)
