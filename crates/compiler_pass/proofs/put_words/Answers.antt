use native.Mathlib.Omega.{arith}
use Rattle.compiler.proofs.Lengths.{length_data}
use Rattle.compiler.proofs.Puts.{putting_start, putting_turn, putting_end, data_at}
use Rattle.compiler_pass.proofs.put_words.Goals as goal

pub loop-word-init : goal.loop-word-init
loop-word-init c = putting_start _ _ _

pub loop-word-preserved : goal.loop-word-preserved
loop-word-preserved c = let l = c.loop-word in
    putting_turn _ _ _ l.buffer l.word-index l.to l.invariant _ _ _ _ (data_at c.args.words.now l.word-index c.loop-word-test.true) c.put_number.ensures c.put_number-in-loop-word.ensures

pub returns : goal.returns
returns c = let l = c.loop-word in
    putting_end _ _ _ l.buffer l.word-index l.to l.invariant (omega (arith, length_data c.args.words.now, c.loop-word-test.false))
