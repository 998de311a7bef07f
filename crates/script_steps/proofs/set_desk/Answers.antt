use mathlib.Core.Path.{refl, ap, ◌∙◌}
use mathlib.Core.List.{List}
use Prim.Native.Nat.{ℕ}
use borrow.Author.Tests.{eq-eqb, ne_eqb}
use Rattle.std.proofs.Common.{arith, ◌≢◌}
use Rattle.record.proofs.Choice.{yes, no}
use Rattle.script.specs.Script.{number_put}
use Rattle.script.specs.Steps.{desk_after}
use Rattle.script_steps.proofs.set_desk.Goals as goal

pub returns-in-1701995379 : goal.returns-in-1701995379
unfolding desk_after
returns-in-1701995379 c = yes _ (eq-eqb _ _ c.in-1701995379.is) c.put_fields.ensures

pub returns-in-1835888483 : goal.returns-in-1835888483
unfolding desk_after
returns-in-1835888483 c =
    let screen : c.args.k ≢ 1701995379 = omega arith in
    no _ (ne_eqb _ _ screen) (yes _ (eq-eqb _ _ c.in-1835888483.is) (c.put_number.ensures ∙ ap (λ (l : List ℕ). number_put l 80 1) c.put_fields-in-1835888483.ensures))

pub returns-in-1735290732 : goal.returns-in-1735290732
unfolding desk_after
returns-in-1735290732 c =
    let screen : c.args.k ≢ 1701995379 = omega arith in
    let command : c.args.k ≢ 1835888483 = omega arith in
    no _ (ne_eqb _ _ screen)
    (no _ (ne_eqb _ _ command)
    (yes _ (eq-eqb _ _ c.in-1735290732.is)
    (c.put_number-in-1735290732.ensures ∙ ap (λ (l : List ℕ). number_put l 88 1) c.put_fields-in-1735290732.ensures)))

pub returns-in_default : goal.returns-in_default
unfolding desk_after
returns-in_default c =
    let screen : c.args.k ≢ 1701995379 = omega arith in
    let command : c.args.k ≢ 1835888483 = omega arith in
    let long : c.args.k ≢ 1735290732 = omega arith in
    no _ (ne_eqb _ _ screen) (no _ (ne_eqb _ _ command) (no _ (ne_eqb _ _ long) refl))
