use mathlib.Core.Path.{sym, ap, ◌∙◌}
use native.Mathlib.Omega.{arith}
use Rattle.chip.specs.Words.{is_word}
use Rattle.chip.proofs.Words.{one_found, all_found, only_words_found}
use Rattle.chip_admit.proofs.words_ahead.Goals as goal

pub returns-then-not-is_word : goal.returns-then-not-is_word
returns-then-not-is_word c = let a = c.args in
    let l = c.loop-n in
    all_found a.stream.now a.i a.most l.n c.loop-n-test.true l.invariant
    (ap is_word (sym c.record_at-r.ensures) ∙ sym c.is_word.ensures ∙ c.if-not-is_word.true)

pub loop-n-preserved : goal.loop-n-preserved
loop-n-preserved c = let a = c.args in
    let l = c.loop-n in
    one_found a.stream.now a.i a.most l.n c.loop-n-test.true l.invariant
    (ap is_word (sym c.record_at-r.ensures) ∙ sym c.is_word.ensures ∙ c.if-not-is_word.false)

pub returns : goal.returns
returns c = let a = c.args in
    let l = c.loop-n in
    only_words_found a.stream.now a.i a.most l.n (omega arith) l.invariant
