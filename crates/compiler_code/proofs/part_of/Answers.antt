use Prim.Native.Nat.{ℕ, ◌<◌}
use mathlib.Core.Path.{subst, sym, ◌∙◌}
use native.Mathlib.Omega.{arith}
use lib.ListN.{length}
use lib.Dec.{ltb}
use borrow.Author.Tests.{ltb-true}
use Rattle.record.proofs.Choice.{and_right}
use Rattle.command.proofs.Forms.{part_ends}
use Rattle.compiler.proofs.Parts.{part_accepted, part_none, part_some}
use Rattle.compiler_code.proofs.part_of.Goals as goal

pub overflow_mul-result : goal.overflow_mul-result
overflow_mul-result g c = let a = c.args in
    let place = c.as_place-in-Err.result in
    let test = c.as_place.result in
    let count = c.quotient-count in
    let h : test < count.result = ltb-true test count.result (and_right c.names_command.result (ltb test count.result) (c.if-names_command-as_place.true)) in
    let k : place < count.result = subst (λ (n : ℕ). n < count.result) (c.as_place.ensures ∙ sym c.as_place-in-Err.ensures) h in
    omega (arith, part_ends a.form (length a.list.now) place (subst (λ (n : ℕ). place < n) count.ensures k), c.well_formed)

pub returns-in-Err : goal.returns-in-Err
returns-in-Err g c = part_some _ _ _ _ _ _ _ _ _ c.in-Err.is c.names_command.ensures c.as_place.ensures c.quotient-count.ensures _ c.as_place-in-Err.ensures c.if-names_command-as_place.true

-- no command of the list is named
pub returns-in_default : goal.returns-in_default
returns-in_default g c = part_none _ _ _ _ _ _ _ _ _ c.in-Err.is c.names_command.ensures c.as_place.ensures c.quotient-count.ensures c.if-names_command-as_place.false

-- nothing is refused
pub returns-in_default-2 : goal.returns-in_default-2
returns-in_default-2 g c = part_accepted _ _ _ _ _ _ c.in_default.is
