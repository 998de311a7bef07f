use mathlib.Core.Path.{ap, ◌∙◌}
use Prim.Native.Nat.{◌-◌, ◌*◌, ◌/◌}
use lib.ListN.{length, take, drop}
use native.Mathlib.Omega.{arith}
use Rattle.screen.specs.Screen.{memory_size}
use Rattle.serial.specs.State.{player_of}
use Rattle.serial.specs.Serial.{Stage}
use Rattle.serial.proofs.Rest.{part_left, few_left, over_itself, rest_refused, rest_left, left_state}
use Rattle.serial_code.proofs.take_rest.Goals as goal

pub returns-then-t-ne0 : goal.returns-then-t-ne0
returns-then-t-ne0 c = let a = c.args in
    let t = c.take_records-t in
    let g = rest_refused memory_size a.start t.result a.memory.now t.new.memory a.bytes.now c.requires.0 t.ensures.0 c.if-t-ne0.true in
    (c.refused_player.ensures ∙ ap (λ (x : Stage). player_of x.state) g, ap (λ (x : Stage). x.memory) g)

pub player_with-requires : goal.player_with-requires
player_with-requires c = let b = c.args.bytes.now in
    let e = part_left b (length b / 8 * 8) in
    (omega (arith, few_left b, ap length e), over_itself (take (length b - length b / 8 * 8) (drop (length b / 8 * 8) b)) _ c.joined_half-half.ensures, c.take_records-t.ensures.1)

pub returns : goal.returns
returns c = let a = c.args in
    let b = a.bytes.now in
    let t = c.take_records-t in
    let z = c.if-t-ne0.false in (
      c.player_with.ensures ∙ ap player_of (left_state memory_size a.start t.result a.memory.now t.new.memory b c.requires.0 t.ensures.0 z _ _ (part_left b (length b / 8 * 8)) c.joined_half-half.ensures),
      ap (λ (x : Stage). x.memory) (rest_left memory_size a.start t.result a.memory.now t.new.memory b c.requires.0 t.ensures.0 z),
    )
