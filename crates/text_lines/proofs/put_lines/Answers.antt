use native.Mathlib.Omega.{arith}
use borrow.Author.Rules.{rules}
use mathlib.Core.Path.{ap}
use Prim.Native.Nat.{◌*◌}
use Rattle.text.proofs.Joined.{fill_start, fill_turn, fill_end, length_line, line_of}
use Rattle.text.proofs.Stored.{counts}
use Rattle.text.specs.Lines.{stream_line}
use Rattle.text_lines.proofs.put_lines.Goals as goal

pub loop-i-init : goal.loop-i-init
loop-i-init c = (omega arith, fill_start _ _ _)

pub loop-i-preserved : goal.loop-i-preserved
loop-i-preserved c = let stream = c.args.stream.now in let l = c.loop-i.text in let i = c.loop-i.i in (search rules, fill_turn 18 (stream_line stream) (length_line stream) _ _ l _ i c.loop-i.invariant.1 c.loop-i-test.true (line_of stream i _ _ l _ c.record_at-r.ensures c.put_line.ensures.text))

pub returns : goal.returns
returns c = record {
  value = ap (λ x. 18 * x) c.min-n.ensures;
  prefix_len = counts _ _ (omega arith);
  text_after = fill_end _ _ _ _ _ _ c.loop-i.invariant.1 c.loop-i-test.false c.min-n.ensures;
}
