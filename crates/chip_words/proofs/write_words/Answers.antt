use Prim.Native.Nat.{ℕ, ◌≤◌, ◌+◌, ◌<◌}
use native.Mathlib.Omega.{arith}
use Rattle.chip.specs.Start.{write_of}
use Rattle.chip.specs.Words.{due_in_line}
use Rattle.chip.specs.declared.Registers.{Registers}
use Rattle.chip.specs.declared.Due.{Due}
use Rattle.chip.proofs.Dues.{line_words_fit}
use Rattle.chip_words.proofs.Gathered.{draw_start, draw_step, draw_end}
use Rattle.chip_words.proofs.write_words.Goals as goal

-- every word of the line has a number of 16 bits
small : (b : Registers) (n : ℕ) (d : Due) (k : ℕ) → k < n → n ≤ due_in_line b d → d.word < 65536 → d.word + k < 65536
small b n d k l m w = omega (arith, line_words_fit b n d (omega arith) m w)

pub loop-k-init : goal.loop-k-init
loop-k-init c = draw_start _ _ _ _ _ _ _

pub overflow_cast-next : goal.overflow_cast-next
overflow_cast-next c = omega (arith, small c.args.b c.args.n c.args.d c.loop-k.k c.loop-k-test.true c.requires.1 (omega arith))

pub overflow_add-next : goal.overflow_add-next
overflow_add-next c = omega (arith, small c.args.b c.args.n c.args.d c.loop-k.k c.loop-k-test.true c.requires.1 (omega arith))

pub loop-k-preserved : goal.loop-k-preserved
loop-k-preserved c = let a = c.args in
    let l = c.loop-k in
    draw_step a.stream.now a.i a.n (write_of a.b (λ x y. 0)) a.d.line a.d.word a.memory.now l.k l.memory _ c.record_at-r.result c.loop-k-test.true c.record_at-r.ensures c.write_word.ensures l.invariant

pub returns : goal.returns
returns c = let a = c.args in
    let l = c.loop-k in
    draw_end a.stream.now a.i a.n (write_of a.b (λ x y. 0)) a.d.line a.d.word a.memory.now l.k l.memory (omega arith) l.invariant
