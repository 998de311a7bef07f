use Prim.Native.Nat.{◌+◌, ◌-◌, ◌*◌}
use native.Mathlib.Omega.{arith}
use Rattle.blit_code.proofs.Lines.{fill_back, to_room, to_zero}
use Rattle.blit_code.proofs.colour_line.Goals as goal

pub overflow_add-e : goal.overflow_add-e
overflow_add-e c = let p = c.requires in
    omega (arith, p.0.memory, to_room _ _ p.0 _ _ p.1 c.low_end-d.ensures)

pub slice_bounds-fill_worker-end : goal.slice_bounds-fill_worker-end
slice_bounds-fill_worker-end c = let p = c.requires in
    to_room _ _ p.0 _ _ p.1 c.low_end-d.ensures

pub low_end-d-requires : goal.low_end-d-requires
low_end-d-requires c = let p = c.requires in
    (p.0.few_bytes, p.0.line, p.0.width, omega (arith, p.0.height), to_zero _ _ p.0 _ p.1)

pub returns : goal.returns
returns c = let a = c.args in
    let p = c.requires in
    let b = a.job in
    fill_back b a.memory.now p.0 a.j a.colour _ (_ + b.width * b.bytes - _) _ p.1 p.2
    c.low_end-d.ensures (omega arith) c.fill_worker.ensures
