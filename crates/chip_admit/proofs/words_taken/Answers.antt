use mathlib.Core.Path.{sym, ap, ◌∙◌}
use Prim.Native.Nat.{ℕ, ◌-◌, min}
use borrow.Author.Tests.{not-true, not-false}
use Rattle.record.specs.Record.{records_from}
use Rattle.chip.specs.Words.{words_ahead}
use Rattle.chip.proofs.Words.{none_due, taken_ahead}
use Rattle.chip_admit.proofs.words_taken.Goals as goal

pub returns-then-not-d : goal.returns-then-not-d
returns-then-not-d c = let a = c.args in
    sym (none_due a.c (records_from a.stream.now a.i (a.count - a.i)) (not-true _ c.if-not-d.true))

pub returns : goal.returns
returns c = let a = c.args in
    let s = a.stream.now in
    let left = a.count - a.i in
    c.words_ahead.ensures
    ∙ ap (λ (k : ℕ). words_ahead (records_from s a.i k)) (c.min-most.ensures ∙ ap (λ (d : ℕ). min d left) c.words_due.ensures.0)
    ∙ taken_ahead a.c s a.i left (not-false _ c.if-not-d.false)
