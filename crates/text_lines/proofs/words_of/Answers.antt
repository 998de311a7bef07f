use native.Mathlib.Omega.{arith}
use borrow.Author.Rules.{rules}
use Rattle.text.proofs.Joined.{fill_start, fill_turn, fill_end, length_word, word_of_lem}
use Rattle.text.proofs.Stored.{counts}
use Rattle.text.specs.Lines.{word_of}
use Rattle.text_lines.proofs.words_of.Goals as goal

pub loop-i-init : goal.loop-i-init
loop-i-init c = (omega arith, fill_start _ _ _)

pub loop-i-preserved : goal.loop-i-preserved
loop-i-preserved c = let bytes = c.args.bytes.now in let l = c.loop-i.words in let i = c.loop-i.i in (search rules, fill_turn 1 (word_of bytes) (length_word bytes) _ _ l _ i c.loop-i.invariant.1 c.loop-i-test.true (word_of_lem bytes i _ l c.u16_at.ensures))

pub returns : goal.returns
returns c = record {
  value = c.min-n.ensures;
  prefix_len = counts _ _ (omega arith);
  words_after = fill_end _ _ _ _ _ _ c.loop-i.invariant.1 c.loop-i-test.false c.min-n.ensures;
}
