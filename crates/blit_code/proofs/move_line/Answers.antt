use mathlib.Core.Path.{ap, ◌∙◌}
use Prim.Native.Nat.{ℕ, ◌+◌, ◌-◌, ◌*◌}
use native.Mathlib.Omega.{arith}
use Rattle.blit.specs.Line.{copied}
use Rattle.blit_code.proofs.Lines.{from_room, from_zero, lent_line, line_bytes_lem, move_back, to_room, to_zero}
use Rattle.blit_code.proofs.Lift.{part_length}
use Rattle.blit_code.proofs.move_line.Goals as goal

pub overflow_add-e : goal.overflow_add-e
overflow_add-e c = let p = c.requires in
    omega (arith, p.0.memory, to_room _ _ p.0 _ _ p.1 c.low_end-d.ensures)

pub slice_bounds-line_worker-end : goal.slice_bounds-line_worker-end
slice_bounds-line_worker-end c = let p = c.requires in
    to_room _ _ p.0 _ _ p.1 c.low_end-d.ensures

pub low_end-s-requires : goal.low_end-s-requires
low_end-s-requires c = let p = c.requires in
    (p.0.few_bytes, p.0.line, p.0.width, omega (arith, p.0.height), from_zero _ _ p.0 _ p.2 _ p.1)

pub low_end-d-requires : goal.low_end-d-requires
low_end-d-requires c = let p = c.requires in
    (p.0.few_bytes, p.0.line, p.0.width, omega (arith, p.0.height), to_zero _ _ p.0 _ p.1)

pub copy_bytes-requires : goal.copy_bytes-requires
copy_bytes-requires c = let p = c.requires in
    (omega (arith, line_bytes_lem _ _ p.0), from_room _ _ p.0 _ p.2 _ _ p.1 c.low_end-s.ensures)

pub line_worker-requires : goal.line_worker-requires
line_worker-requires c = let p = c.requires in
    (lent_line _ _ p.0 _ (part_length _ _ _ (to_room _ _ p.0 _ _ p.1 c.low_end-d.ensures)), omega (arith, line_bytes_lem _ _ p.0))

pub returns : goal.returns
returns c = let a = c.args in
    let p = c.requires in
    let b = a.job in record {
      memory_after = move_back b a.memory.now p.0 a.j a.from _ _ (_ + b.width * b.bytes - _) _ a.source.now _ _ p.1 p.2
          c.low_end-s.ensures c.low_end-d.ensures (omega arith) c.lag_of-lag.ensures
          (omega (arith, line_bytes_lem _ _ p.0)) c.copy_bytes.ensures c.line_worker.ensures;
      source_after = c.copy_bytes.ensures ∙ ap (λ (x : ℕ). copied a.memory.now x (b.width * b.bytes) a.source.now) c.low_end-s.ensures;
    }
