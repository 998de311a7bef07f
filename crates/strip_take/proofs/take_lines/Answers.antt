use Rattle.ring.specs.declared.Ring.{Ring}
use lib.Seq.{length-take-le}
use Rattle.sample.proofs.Texts.{line_more, lines_taken}
use Rattle.ring.specs.Kept.{ring_after}
use Rattle.sample.specs.Line.{lines_of, samples_of}
use mathlib.Core.Path.{ap}
use native.Mathlib.Omega.{arith}
use Prim.Native.Nat.{◌-◌}
use lib.ListN.{length, drop, length-drop}
use Rattle.strip_take.proofs.take_lines.Goals as goal

pub loop-at-init : goal.loop-at-init
loop-at-init g c = (omega arith, (omega arith, ap (λ (x : Ring). ring_after x (samples_of (lines_of c.args.text.now))) c.new_ring-ring.ensures))

pub loop-at-preserved : goal.loop-at-preserved
loop-at-preserved g c = let l = c.loop-at in let t = c.args.text.now in let e = c.run_end-n in (omega (arith, e.ensures.upper_bound, length-take-le (length t - l.at) (drop l.at t) (omega (arith, length-drop l.at t)), length-drop l.at t), (omega arith, line_more t l.at e.result l.ring _ _ (record { within = e.ensures.upper_bound; front = e.ensures.s_value; rest = e.ensures.s_value_2 }) c.take_line.ensures l.invariant.1.1))

pub returns : goal.returns
returns g c = let l = c.loop-at in lines_taken _ l.at _ _ c.loop-at-test.false l.invariant.1.1
