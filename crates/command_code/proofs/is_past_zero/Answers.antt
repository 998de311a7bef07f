use mathlib.Core.Path.{sym, ap, ◌∙◌}
use mathlib.Core.List.{List}
use Prim.Native.Nat.{ℕ}
use lib.ListN.{drop}
use Rattle.record.specs.Bytes.{all_zero}
use Rattle.command_values.proofs.Table.{up_to_two, past_two}
use Rattle.command_code.proofs.Rows.{last_eight, last_sixteen, none_in_short, long_length}
use Rattle.command_code.proofs.is_past_zero.Goals as goal

pub returns-then-b-lt48 : goal.returns-then-b-lt48
returns-then-b-lt48 c = none_in_short c.args.b.now c.args.operation c.requires c.if-b-lt48.true

pub returns-then-operation-le2 : goal.returns-then-operation-le2
returns-then-operation-le2 c = let last = c in
    let start = last in
    let b : List ℕ = start.args.b.now in
    let long = long_length b start.requires last.if-b-lt48.false in
    last_sixteen b _ _ _ long c.u32_at-then-operation-le2.ensures c.u32_at-then-operation-le2-2.ensures
    (last_eight b _ _ long last.u32_at.ensures last.u32_at-2.ensures)
    ∙ ap (λ (k : ℕ). all_zero (drop k b)) (sym (up_to_two _ _ _ _ _ c.if-operation-le2.true))

pub returns : goal.returns
returns c = let last = c in
    let start = last in
    let b : List ℕ = start.args.b.now in
    last_eight b _ _ (long_length b start.requires last.if-b-lt48.false) last.u32_at.ensures last.u32_at-2.ensures
    ∙ ap (λ (k : ℕ). all_zero (drop k b)) (sym (past_two _ _ _ _ _ c.if-operation-le2.false))
