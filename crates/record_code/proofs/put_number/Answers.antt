use native.Mathlib.Omega.{arith}
use mathlib.Core.Path.{ap, ◌∙◌}
use Prim.Native.Nat.{◌+◌, ◌-◌}
use lib.ListN.{take}
use Rattle.record.specs.Bytes.{four_bytes}
use Rattle.record.proofs.Stores.{part_put}
use Rattle.record_code.proofs.put_number.Goals as goal
use borrow.Rule.Slice.PartMut.{put_mid}

pub returns : goal.returns
returns c =
    let a = c.args in
    ap (λ vs. put_mid a.at (a.at + 4 - a.at) a.buffer.now vs) (c.copy_from_slice.ensures.after ∙ ap (λ l. take 4 l) c.to_le_bytes.ensures)
    ∙ part_put a.buffer.now a.at (a.at + 4) (four_bytes a.value) (omega arith) c.requires (omega arith)
