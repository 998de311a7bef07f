use native.Mathlib.Omega.{arith}
use borrow.Author.Rules.{rules}
use mathlib.Core.Path.{ap}
use Prim.Native.Nat.{◌*◌}
use Rattle.text.proofs.Joined.{fill_start, fill_turn, fill_end, length_byte, byte_of}
use Rattle.text.proofs.Stored.{counts}
use Rattle.text.specs.Lines.{hex_byte}
use Rattle.text_lines.proofs.put_bytes.Goals as goal

pub loop-i-init : goal.loop-i-init
loop-i-init c = (omega arith, fill_start _ _ _)

pub loop-i-preserved : goal.loop-i-preserved
loop-i-preserved c = let bytes = c.args.bytes.now in let l = c.loop-i.text in let i = c.loop-i.i in (search rules, fill_turn 3 (hex_byte bytes) (length_byte bytes) _ _ l _ i c.loop-i.invariant.1 c.loop-i-test.true (byte_of bytes i _ l _ c.put_byte.ensures.text))

pub returns : goal.returns
returns c = record {
  value = ap (λ x. 3 * x) c.min-n.ensures;
  prefix_len = counts _ _ (omega arith);
  text_after = fill_end _ _ _ _ _ _ c.loop-i.invariant.1 c.loop-i-test.false c.min-n.ensures;
}
