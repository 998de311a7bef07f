use mathlib.Core.Path.{◌≡◌, sym, ap, ◌∙◌, subst}
use native.Mathlib.Omega.{arith}
use Prim.Native.Nat.{ℕ, ◌+◌, ◌-◌, ◌/◌, ◌%◌, ◌≤◌, ◌<◌, min}
use Rattle.chip.specs.Words.{line_words, due_in_all, due_after_words}
use Rattle.chip.specs.Start.{height_of}
use Rattle.chip.specs.declared.Registers.{Registers}
use Rattle.chip.specs.declared.Due.{Due}
use Rattle.chip.proofs.Dues.{due_at, none_left, after_words, few_lines}
use Rattle.chip_due.proofs.Idle.{none_due}
use Rattle.chip_due.proofs.due_after_words.Goals as goal

-- the lines that have come are no more than were left
lines :
    (b : Registers) (n : ℕ) (d : Due) (before words : ℕ) → before ≡ min d.word (line_words b - 1) → words ≡ line_words b → n < due_in_all b d
    → (before + n) / words ≤ height_of b - (d.line + 1)
lines b n d before words e p l = subst (λ (x : ℕ). x ≤ height_of b - (d.line + 1)) (sym (λ t. (e t + n) / p t)) (few_lines b n d l)

pub returns-then-n-words_due : goal.returns-then-n-words_due
returns-then-n-words_due c = let a = c.args in
    none_due c.default.result c.default.ensures
    ∙ sym (ap (λ (n : ℕ). due_after_words a.b n a.d) (c.if-n-words_due.true ∙ c.words_due.ensures.0) ∙ none_left a.b a.d)

pub overflow_cast-result : goal.overflow_cast-result
overflow_cast-result c = omega (arith, lines c.args.b c.args.n c.args.d _ _ c.words_before.ensures c.words_of-words.ensures.0 (omega arith))

pub overflow_add-result : goal.overflow_add-result
overflow_add-result c = omega (arith, lines c.args.b c.args.n c.args.d _ _ c.words_before.ensures c.words_of-words.ensures.0 (omega arith))

pub returns : goal.returns
returns c = let a = c.args in
    let p = c.words_of-words.ensures.0 in
    let l = c.words_before.ensures in
    sym (after_words a.b a.n a.d c.requires.0 (omega arith)
    ∙ (λ t. due_at (a.d.line + (sym l t + a.n) / sym p t) ((sym l t + a.n) % sym p t)))
