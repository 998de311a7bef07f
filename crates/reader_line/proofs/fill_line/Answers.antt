use Prim.Native.Nat.{◌-◌}
use native.Mathlib.Omega.{arith}
use Rattle.reader.specs.Along.{colours_from}
use Rattle.reader.proofs.Along.{in_panel, one_left, one_middle, one_right}
use Rattle.reader_line.proofs.Parts.{still_fits, line_stored, inside_left, inside_middle, inside_right}
use Rattle.reader_line.proofs.fill_line.Goals as goal

pub fill_part-requires : goal.fill_part-requires
fill_part-requires c = let a = c.args in
    let p = c.requires in
    let t = in_panel a.d a.values a.q c.requires.0.depth a.c c.requires.1.0 in (
      p.0,
      (one_left a.d a.values a.q p.0.depth a.c p.1.0, (omega arith, (omega (arith, t.0, t.1, p.1.1.0), inside_left a.d a.values a.q a.c.from a.c.to t.0 t.1 _ p.1.1.1))),
    )

pub fill_part-requires-2 : goal.fill_part-requires-2
fill_part-requires-2 c = let a = c.args in
    let p = c.requires in
    let t = in_panel a.d a.values a.q c.requires.0.depth a.c c.requires.1.0 in (
      p.0,
      (one_middle a.d a.values a.q p.0.depth a.c p.1.0, (t.0, (still_fits a.line.now _ (colours_from a.d a.values a.q a.memory.now 0 (a.c.from - 0)) 0 a.c.to c.fill_part.ensures (omega (arith, t.1, p.1.1.0)), inside_middle a.d a.values a.q a.c.from a.c.to t.0 t.1 _ p.1.1.1))),
    )

pub fill_part-requires-3 : goal.fill_part-requires-3
fill_part-requires-3 c = let a = c.args in
    let p = c.requires in
    let t = in_panel a.d a.values a.q c.requires.0.depth a.c c.requires.1.0 in (
      p.0,
      (one_right a.d a.values a.q p.0.depth a.c p.1.0, (t.1, (still_fits _ _ (colours_from a.d a.values a.q a.memory.now a.c.from (a.c.to - a.c.from)) a.c.from a.d.width c.fill_part-2.ensures (still_fits a.line.now _ (colours_from a.d a.values a.q a.memory.now 0 (a.c.from - 0)) 0 a.d.width c.fill_part.ensures (omega (arith, p.1.1.0))), inside_right a.d a.values a.q a.c.from a.c.to t.0 t.1 _ p.1.1.1))),
    )

pub returns : goal.returns
returns c = let a = c.args in
    let t = in_panel a.d a.values a.q c.requires.0.depth a.c c.requires.1.0 in
    line_stored a.d a.values a.q a.c.from a.c.to t.0 t.1 a.memory.now a.line.now _ _ _ c.requires.1.1.0
    c.fill_part.ensures c.fill_part-2.ensures c.fill_part-3.ensures
