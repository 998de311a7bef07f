use mathlib.Core.Path.{refl}
use borrow.Author.Rules.{rules}
use Rattle.files.proofs.System.{left_out_words, no_words, words_loaded}
use Rattle.files.proofs.load_words.Goals as goal

pub returns-then-is_left_out : goal.returns-then-is_left_out
returns-then-is_left_out g c = left_out_words _

pub returns-in_err-n : goal.returns-in_err-n
returns-in_err-n g c = no_words _ _ c.from_residual.ensures

pub returns-then-n : goal.returns-then-n
returns-then-n g c = no_words _ _ refl

pub returns-then-n-ne0 : goal.returns-then-n-ne0
returns-then-n-ne0 g c = no_words _ _ refl

pub returns : goal.returns
returns g c =
    let e = c.words_of.ensures in
    words_loaded _ _ _ _ _ (search rules) c.in_ok-n.ensures.within.1 c.if-n.false c.if-n-ne0.false e.value e.prefix_len e.words_after
