use mathlib.Core.Path.{sym, ap, ◌∙◌}
use Prim.Native.Nat.{ℕ}
use native.Mathlib.Omega.{arith}
use Rattle.screen.specs.Screen.{memory_size}
use Rattle.refusal.specs.Number.{number}
use Rattle.chip.specs.Play.{refused_by}
use Rattle.serial.specs.Serial.{answer_of}
use Rattle.serial.proofs.Players.{block_repeats, block_18, block_32, block_taken}
use Rattle.serial.proofs.Ways.{fed_same, fed_bytes}
use Rattle.serial_code.proofs.take_block.Goals as goal

pub returns-then-p-ne0 : goal.returns-then-p-ne0
returns-then-p-ne0 c = let a = c.args in
    let r = fed_same _ a.p _ _ a.memory.now (block_repeats memory_size a.p a.block.now a.memory.now c.if-p-ne0.true) c.kept_answer-answer.ensures in
    record { value = r.0; memory_after = r.1 }

pub returns-then-memory-ne-MEMORY_SIZE : goal.returns-then-memory-ne-MEMORY_SIZE
unfolding number
returns-then-memory-ne-MEMORY_SIZE c = let a = c.args in
    let r = fed_same _ a.p _ _ a.memory.now (block_18 memory_size a.p a.block.now a.memory.now c.if-p-ne0.false c.if-memory-ne-MEMORY_SIZE.true) (c.answer_with-answer.ensures ∙ ap (λ (n : ℕ). answer_of (refused_by n 0)) c.number.ensures) in
    record { value = r.0; memory_after = r.1 }

pub returns-then-block-gt64 : goal.returns-then-block-gt64
unfolding number
returns-then-block-gt64 c = let a = c.args in
    let r = fed_same _ a.p _ _ a.memory.now (block_32 memory_size a.p a.block.now a.memory.now c.if-p-ne0.false c.if-memory-ne-MEMORY_SIZE.false (λ l. omega arith)) (c.answer_with-answer-then-block-gt64.ensures ∙ ap (λ (n : ℕ). answer_of (refused_by n 0)) c.number-then-block-gt64.ensures) in
    record { value = r.0; memory_after = r.1 }

pub take_words-next-requires : goal.take_words-next-requires
take_words-next-requires c = sym c.is_words.ensures ∙ c.if-is_words.true

pub returns-then-is_words : goal.returns-then-is_words
returns-then-is_words c = let a = c.args in
    let t = c.take_words-next in
    let r = fed_bytes _ _ t.result _ _ (block_taken memory_size a.p a.block.now a.memory.now c.if-p-ne0.false c.if-memory-ne-MEMORY_SIZE.false (omega arith)) t.ensures.0 c.answer_with-answer-then-is_words.ensures t.ensures.1 in
    record { value = r.0; memory_after = r.1 }

pub returns : goal.returns
returns c = let a = c.args in
    let t = c.take_bytes-player in
    let r = fed_bytes _ _ t.result _ _ (block_taken memory_size a.p a.block.now a.memory.now c.if-p-ne0.false c.if-memory-ne-MEMORY_SIZE.false (omega arith)) t.ensures.0 c.answer_with-answer-2.ensures t.ensures.1 in
    record { value = r.0; memory_after = r.1 }
