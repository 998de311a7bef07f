use mathlib.Core.Path.{sym, ◌∙◌}
use Rattle.script.proofs.Laws.{words_start}
use Rattle.script_code.proofs.Words.{words_filled, no_words_filled}
use Rattle.script_code.proofs.put_words.Goals as goal

pub returns-then-first-end : goal.returns-then-first-end
returns-then-first-end c = let w = c.args.words.now in
    words_filled w c.number-first.result c.number.result c.min-end.result _ c.min-end.ensures _ c.if-first-end.true (c.fill.ensures.after (λ y e. e))
    ∙ sym (words_start _ w _ _ _ c.number-first.ensures c.number.ensures c.number-2.ensures)

pub returns-else-first-end : goal.returns-else-first-end
returns-else-first-end c = let w = c.args.words.now in
    no_words_filled w c.number-first.result c.number.result c.min-end.result _ c.min-end.ensures c.if-first-end.false
    ∙ sym (words_start _ w _ _ _ c.number-first.ensures c.number.ensures c.number-2.ensures)
