use mathlib.Core.Path.{◌∙◌}
use Prim.Native.Nat.{◌≤◌, max}
use native.Mathlib.Nat.{mul-le-mul}
use native.Mathlib.Omega.{arith}
use Rattle.blit_code.proofs.Lines.{line_bytes_lem, rows_line, to_room, to_zero}
use Rattle.blit_code.proofs.row_line.Goals as goal

pub low_end-at-requires : goal.low_end-at-requires
low_end-at-requires c = let p = c.requires in
    (p.0.few_bytes, p.0.line, p.0.width, omega (arith, p.0.height), to_zero _ _ p.0 _ p.1)

pub put_line-requires : goal.put_line-requires
put_line-requires c = let p = c.requires in
    (p.0.some_bytes, p.0.few_bytes, p.0.width, omega (arith, line_bytes_lem _ _ p.0), to_room _ _ p.0 _ _ p.1 c.low_end-at.ensures)

pub returns : goal.returns
returns c = let a = c.args in
    let p = c.requires in
    let b = a.job in
    let few : max 16 b.width ≤ 1024 = omega (arith, p.0.width) in record {
      memory_after = c.put_line.ensures
          ∙ rows_line b a.memory.now p.0 a.rows a.x a.y a.j _ a.source.now _ p.1 p.2 c.low_end-at.ensures
          (omega (arith, mul-le-mul few p.0.few_bytes, p.5)) c.tile_line.ensures;
      source_after = c.tile_line.ensures;
    }
