use native.Mathlib.Omega.{arith}
use mathlib.Core.Path.{ap, ◌∙◌}
use mathlib.Core.List.{List}
use Prim.Native.Nat.{ℕ, ◌+◌}
use lib.ListN.{get_or, set}
use Rattle.chip_words.proofs.Clipped.{drawn_one, drawn_two}
use Rattle.chip_words.proofs.draw_clipped.Goals as goal

pub returns-then-bytes-eq1 : goal.returns-then-bytes-eq1
returns-then-bytes-eq1 c = let a = c.args in
    c.store_byte.ensures
    ∙ ap (λ (l : List ℕ). set a.memory.now a.at (get_or l 0 0)) c.to_le_bytes.ensures
    ∙ drawn_one a.bytes a.at a.mix a.pixel _ a.memory.now _ c.if-bytes-eq1.true c.byte_at-low.ensures.0 c.mixed_pixel-v.ensures

pub returns : goal.returns
returns c = let a = c.args in
    let m : List ℕ = c.store_byte-2.new.memory in
    let e = c.to_le_bytes-new.ensures in
    c.store_byte-3.ensures
    ∙ ap (λ (l : List ℕ). set m (a.at + 1) (get_or l 1 0)) e
    ∙ drawn_two a.bytes a.at a.mix a.pixel _ a.memory.now _ _ m (omega arith) c.byte_at-low.ensures.0 c.byte_at-high.ensures.0
    c.mixed_pixel-v-2.ensures (c.store_byte-2.ensures ∙ ap (λ (l : List ℕ). set a.memory.now a.at (get_or l 0 0)) e)
