use mathlib.Core.Path.{◌∙◌}
use Prim.Native.Nat.{◌+◌, ◌-◌, ◌*◌, ◌%◌}
use native.Mathlib.Omega.{arith}
use Rattle.blit_code.proofs.Lift.{part_length}
use Rattle.blit_code.proofs.Lines.{line_bytes_lem, part_line, to_room, to_zero}
use Rattle.blit_code.proofs.pattern_line.Goals as goal

pub low_end-at-requires : goal.low_end-at-requires
low_end-at-requires c = let p = c.requires in
    (p.0.few_bytes, p.0.line, p.0.width, omega (arith, p.0.height), to_zero _ _ p.0 _ p.1)

pub put_line-requires : goal.put_line-requires
put_line-requires c = let p = c.requires in
    let at = c.args.j % 8 * 2048 in
    let size = part_length at 2048 c.args.lines.now (omega arith) in
    (p.0.some_bytes, p.0.few_bytes, p.0.width, omega (arith, line_bytes_lem _ _ p.0, size), to_room _ _ p.0 _ _ p.1 c.low_end-at.ensures)

pub returns : goal.returns
returns c = let a = c.args in
    let p = c.requires in
    c.put_line.ensures
    ∙ part_line a.job a.memory.now p.0 a.j _ (a.j % 8 * 2048 + 2048 - a.j % 8 * 2048) a.lines.now p.1 p.2 c.low_end-at.ensures (omega arith) p.3
