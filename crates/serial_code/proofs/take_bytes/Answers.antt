use mathlib.Core.Path.{◌≡◌, ap, ◌∙◌}
use native.Mathlib.Omega.{arith}
use lib.ListN.{length}
use Rattle.screen.specs.Screen.{memory_size}
use Rattle.serial.specs.State.{player_of}
use Rattle.serial.specs.Serial.{Stage}
use Rattle.serial.proofs.Rest.{none_held, still_half, half_state, half_array, whole_refused, whole_taken}
use Rattle.serial_code.proofs.take_bytes.Goals as goal

pub returns-then-held-eq0 : goal.returns-then-held-eq0
returns-then-held-eq0 c = let a = c.args in
    let h = c.held_by-held in
    let k = c.chip_of in
    let g = none_held memory_size a.p a.memory.now a.block.now k.result k.ensures.0 h.result h.ensures.0 c.if-held-eq0.true in
    (c.take_rest.ensures.0 ∙ ap (λ (x : Stage). player_of x.state) g, c.take_rest.ensures.1 ∙ ap (λ (x : Stage). x.memory) g)

pub player_with-requires : goal.player_with-requires
player_with-requires c = let a = c.args in
    -- the half-read record's array has seven bytes
    let seven : length a.p.half ≡ 7 = omega arith in
    let h = c.held_by-held in
    let k = c.chip_of in
    (omega arith, half_array memory_size a.p a.memory.now a.block.now k.result k.ensures.0 h.result h.ensures.0 seven _ c.joined_half-more.ensures, k.ensures.1)

pub returns-then-block-due : goal.returns-then-block-due
returns-then-block-due c = let a = c.args in
    -- the half-read record's array has seven bytes
    let seven : length a.p.half ≡ 7 = omega arith in
    let h = c.held_by-held in
    let k = c.chip_of in (
      c.player_with.ensures
          ∙ ap player_of (half_state memory_size a.p a.memory.now a.block.now k.result k.ensures.0 h.result h.ensures.0 seven (omega arith) _ c.joined_half-more.ensures),
      ap (λ (x : Stage). x.memory) (still_half memory_size a.p a.memory.now a.block.now k.result k.ensures.0 h.result h.ensures.0 seven (omega arith)),
    )

pub returns-then-t-ne0 : goal.returns-then-t-ne0
returns-then-t-ne0 c = let a = c.args in
    -- the half-read record's array has seven bytes
    let seven : length a.p.half ≡ 7 = omega arith in
    let h = c.held_by-held in
    let k = c.chip_of in
    let t = c.take_records-t in
    let g = whole_refused memory_size a.p a.memory.now a.block.now k.result k.ensures.0 h.result h.ensures.0 seven (omega (arith, c.if-block-due.false)) _ c.joined_record-whole.ensures t.result _ t.ensures.0 c.if-t-ne0.true in
    (c.refused_player.ensures ∙ ap (λ (x : Stage). player_of x.state) g, ap (λ (x : Stage). x.memory) g)

pub take_rest-requires-2 : goal.take_rest-requires-2
take_rest-requires-2 c = let t = c.take_records-t in
    (c.if-t-ne0.false, t.auto.memory ∙ c.requires, t.ensures.1)

pub returns : goal.returns
returns c = let a = c.args in
    -- the half-read record's array has seven bytes
    let seven : length a.p.half ≡ 7 = omega arith in
    let h = c.held_by-held in
    let k = c.chip_of in
    let t = c.take_records-t in
    let g = whole_taken memory_size a.p a.memory.now a.block.now k.result k.ensures.0 h.result h.ensures.0 seven (omega (arith, c.if-block-due.false)) _ c.joined_record-whole.ensures t.result _ t.ensures.0 in
    (c.take_rest-2.ensures.0 ∙ ap (λ (x : Stage). player_of x.state) g, c.take_rest-2.ensures.1 ∙ ap (λ (x : Stage). x.memory) g)
