use Prim.Native.Nat.{◌+◌, ◌-◌, ◌*◌}
use native.Mathlib.Omega.{arith}
use Rattle.blit_code.proofs.Put.{line_back}
use Rattle.blit_code.proofs.put_line.Goals as goal

pub returns : goal.returns
returns c = let a = c.args in
    line_back a.bytes a.mix a.at a.count (a.at + a.count * a.bytes - a.at) a.memory.now _ _
    c.requires.4 (omega arith) c.line_worker.ensures
