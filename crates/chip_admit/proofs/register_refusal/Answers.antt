use mathlib.Core.Path.{sym, ap, ◌∙◌}
use mathlib.Core.Bool.{Bool, cond}
use Rattle.refusal.specs.Number.{number, number_by}
use Rattle.chip.specs.Start.{startable, within}
use Rattle.chip_admit.proofs.Refusals.{plain, not_startable, not_within, startable_within}
use Rattle.chip_admit.proofs.register_refusal.Goals.{then-starts_blit+else-not-is_startable+else-not-is_within, else-starts_blit}
use Rattle.chip_admit.proofs.register_refusal.Goals as goal

pub returns-then-not-is_startable : goal.returns-then-not-is_startable
unfolding number_by number
returns-then-not-is_startable c = let a = c.args in
    not_startable a.memory a.c a.r c.requires (sym c.in_field.ensures ∙ c.if-not-in_field.false) (sym c.starts_blit.ensures ∙ c.if-starts_blit.true)
    (sym (c.is_startable.ensures ∙ ap startable c.blit_after-next.ensures) ∙ c.if-not-is_startable.true)

pub returns-then-not-is_within : goal.returns-then-not-is_within
unfolding number_by number
returns-then-not-is_within c = let a = c.args in
    not_within a.memory a.c a.r c.requires (sym c.in_field.ensures ∙ c.if-not-in_field.false) (sym c.starts_blit.ensures ∙ c.if-starts_blit.true)
    (sym (c.is_startable.ensures ∙ ap startable c.blit_after-next.ensures) ∙ c.if-not-is_startable.false)
    (sym (c.is_within.ensures ∙ ap (within a.memory) c.blit_after-next.ensures) ∙ c.if-not-is_within.true)

-- past the checks of a start only the order counts
pub returns-then-c : goal.returns-then-c
unfolding number_by number
returns-then-c c = let a = c.args in
    let f = sym c.in_field.ensures ∙ c.if-not-in_field.false in
    ap (λ (t : Bool). cond t 23 0) (sym c.if-c.true)
    ∙ elim c.if-starts_blit.branch [
      | then-starts_blit+else-not-is_startable+else-not-is_within w ↦
          startable_within a.memory a.c a.r c.requires f (sym c.starts_blit.ensures ∙ w.if-starts_blit.true)
          (sym (w.is_startable.ensures ∙ ap startable w.blit_after-next.ensures) ∙ w.if-not-is_startable.false)
          (sym (w.is_within.ensures ∙ ap (within a.memory) w.blit_after-next.ensures) ∙ w.if-not-is_within.false)
      | else-starts_blit w ↦ plain a.memory a.c a.r c.requires f (sym c.starts_blit.ensures ∙ w.if-starts_blit.false)
    ]

pub returns : goal.returns
unfolding number_by number
returns c = let a = c.args in
    let f = sym c.in_field.ensures ∙ c.if-not-in_field.false in
    ap (λ (t : Bool). cond t 23 0) (sym c.if-c.false)
    ∙ elim c.if-starts_blit.branch [
      | then-starts_blit+else-not-is_startable+else-not-is_within w ↦
          startable_within a.memory a.c a.r c.requires f (sym c.starts_blit.ensures ∙ w.if-starts_blit.true)
          (sym (w.is_startable.ensures ∙ ap startable w.blit_after-next.ensures) ∙ w.if-not-is_startable.false)
          (sym (w.is_within.ensures ∙ ap (within a.memory) w.blit_after-next.ensures) ∙ w.if-not-is_within.false)
      | else-starts_blit w ↦ plain a.memory a.c a.r c.requires f (sym c.starts_blit.ensures ∙ w.if-starts_blit.false)
    ]
