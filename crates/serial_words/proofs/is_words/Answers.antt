use native.Mathlib.Omega.{arith}
use Rattle.serial.proofs.Alone.{not_half_read, not_due, not_whole, not_some, not_one_line, by_words}
use Rattle.serial_words.proofs.is_words.Goals as goal

pub returns-then-p-ne0 : goal.returns-then-p-ne0
returns-then-p-ne0 c = let a = c.args in not_half_read a.p a.block.now c.if-p-ne0.true

pub returns-then-p-eq0 : goal.returns-then-p-eq0
returns-then-p-eq0 c = let a = c.args in not_due a.p a.block.now c.if-p-ne0.false c.if-p-eq0.true

pub returns-then-block-ne0 : goal.returns-then-block-ne0
returns-then-block-ne0 c = let a = c.args in not_whole a.p a.block.now c.if-p-ne0.false c.if-p-eq0.false c.if-block-ne0.true

pub returns-then-n-eq0 : goal.returns-then-n-eq0
returns-then-n-eq0 c = let a = c.args in not_some a.p a.block.now c.if-p-ne0.false c.if-p-eq0.false c.if-block-ne0.false c.if-n-eq0.true

pub returns-then-line_due-n : goal.returns-then-line_due-n
returns-then-line_due-n c = let a = c.args in not_one_line a.p a.block.now c.if-p-ne0.false c.if-p-eq0.false c.if-block-ne0.false c.if-n-eq0.false (omega (arith, c.if-line_due-n.true, c.line_due.ensures.0))

pub returns : goal.returns
returns c = let a = c.args in by_words a.p a.block.now c.if-p-ne0.false c.if-p-eq0.false c.if-block-ne0.false c.if-n-eq0.false (omega (arith, c.if-line_due-n.false, c.line_due.ensures.0)) c.words_ahead.result c.words_ahead.ensures
