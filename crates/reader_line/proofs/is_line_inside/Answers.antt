use mathlib.Core.Path.{sym}
use native.Mathlib.Nat.{sub-zero}
use Rattle.reader.proofs.Along.{in_panel, one_left, one_middle, one_right}
use Rattle.reader.proofs.Line.{inside_parts}
use Rattle.reader_line.proofs.is_line_inside.Goals as goal

pub is_run_inside-left-requires : goal.is_run_inside-left-requires
is_run_inside-left-requires c = let a = c.args in (c.requires.0, one_left a.d a.values a.q c.requires.0.depth a.c c.requires.1)

pub is_run_inside-middle-requires : goal.is_run_inside-middle-requires
is_run_inside-middle-requires c = let a = c.args in let p = c.requires in (p.0, one_middle a.d a.values a.q p.0.depth a.c p.1)

pub is_run_inside-right-requires : goal.is_run_inside-right-requires
is_run_inside-right-requires c = let a = c.args in let p = c.requires in (p.0, one_right a.d a.values a.q p.0.depth a.c p.1)

pub returns : goal.returns
returns c = let a = c.args in
    let p = c.requires in
    let t = in_panel a.d a.values a.q p.0.depth a.c p.1 in
    rw (c.is_run_inside-left.ensures, c.is_run_inside-middle.ensures, c.is_run_inside-right.ensures)
    (rw (sub-zero a.c.from) (sym (inside_parts a.size a.d a.values a.q a.c.from a.c.to a.d.width t.0 t.1)))
