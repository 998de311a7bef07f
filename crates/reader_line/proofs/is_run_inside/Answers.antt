use Rattle.reader.proofs.Along.{near, ends_inside}
use Rattle.reader.proofs.Line.{inside_none}
use native.Mathlib.Omega.{arith}
use Prim.Native.Nat.{◌-◌}
use Rattle.reader_line.proofs.is_run_inside.Goals as goal

pub returns-then-to-from : goal.returns-then-to-from
returns-then-to-from c = inside_none _ _ _ _ _ _ c.if-to-from.true

pub is_inside-requires : goal.is_inside-requires
is_inside-requires c = near c.args.d c.args.values c.args.from c.args.q _ c.requires.0 c.ranges.from.fits c.ranges.q.fits c.steps_from-s.ensures

pub is_inside-requires-2 : goal.is_inside-requires-2
is_inside-requires-2 c = near c.args.d c.args.values c.args.from c.args.q _ c.requires.0 c.ranges.from.fits c.ranges.q.fits c.steps_from-s.ensures

pub returns : goal.returns
returns c = let f = c.args in
    rw (c.is_inside.ensures, c.is_inside-2.ensures)
    (ends_inside f.d f.values f.q f.from (f.to - f.from) c.requires.0 c.requires.1 _ c.steps_from-s.ensures f.size (omega (arith, c.if-to-from.false)))
