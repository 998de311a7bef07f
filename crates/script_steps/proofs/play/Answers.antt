use Rattle.screen.specs.Screen.{memory_size}
use Rattle.chip.specs.Play.{playing, played, answer_of}
use mathlib.Core.Path.{refl, ap, ◌∙◌}
use Rattle.refusal.specs.Number.{told_by}
use mathlib.Core.List.{List}
use Prim.Native.Nat.{ℕ}
use borrow.Author.Tests.{eq-eqb, ne_eqb}
use Rattle.record.proofs.Choice.{yes, no}
use Rattle.script.specs.Steps.{played_after, memory_played}
use Rattle.script.proofs.Desk.{taken}
use Rattle.script_steps.proofs.play.Goals as goal

pub returns-then-k-ne-PLAY : goal.returns-then-k-ne-PLAY
unfolding played_after memory_played
returns-then-k-ne-PLAY g c = record { value = no _ (ne_eqb _ _ c.if-k-ne-PLAY.true) refl; memory_after = no _ (ne_eqb _ _ c.if-k-ne-PLAY.true) refl }

pub returns : goal.returns
unfolding played_after memory_played
returns g c = let a = c.args in
    let is = eq-eqb _ _ c.if-k-ne-PLAY.false in
    let part = taken a.stream.now _ _ _ c.min-n.ensures c.size_of.ensures in
    let answer = c.play.ensures.value ∙ ap (λ (l : List ℕ). answer_of (playing memory_size l a.memory.now)) part in
    record { value = yes _ is (c.told.ensures ∙ ap (told_by g.E.Told.told) answer); memory_after = yes _ is (c.play.ensures.memory_after ∙ ap (λ (l : List ℕ). played memory_size l a.memory.now) part) }
