use mathlib.Core.Path.{sym, ◌∙◌}
use mathlib.Core.List.{◌∷◌}
use native.Mathlib.Omega.{arith}
use Prim.Native.Nat.{◌+◌}
use lib.ListN.{length, drop}
use Rattle.std.proofs.lemmas.List.{length_push}
use Rattle.std.proofs.lemmas.Slice.Zip.{zip_turn, zip_end}
use Rattle.record.specs.Record.{record_with}
use Rattle.compiler.specs.Stream.{records_with}
use Rattle.compiler.proofs.Puts.{putting_start, putting_turn, putting_end, with_at, length_with}
use Rattle.compiler_pass.proofs.put_records.Goals as goal

pub loop-number-init : goal.loop-number-init
loop-number-init c = putting_start _ _ _

pub loop-number-preserved : goal.loop-number-preserved
loop-number-preserved c = let a = c.args in
    let l = c.loop-number in
    let i = length l.yielded in
    let t = zip_turn a.numbers.now a.values.now l.yielded c.into_iter-number-iterator.result l.number-iterator c.next.new.self c.next.result (cc) (cc) l.yielded_by (c.in-Some.number, c.in-Some.value) c.in-Some.is c.next.ensures.steps in
    rw length_push
    (putting_turn _ _ _ l.buffer i l.to l.invariant _ _ _ _
    (with_at a.numbers.now a.values.now i c.requires.numbers_len t.1
    ∙ (λ k. record_with (sym (t.2 0) k) (sym (t.3 0) k) ∷ drop (i + 1) (records_with a.numbers.now a.values.now)))
    c.put_number.ensures c.put_number-in-loop-number.ensures)

pub returns : goal.returns
returns c = let a = c.args in
    let l = c.loop-number in
    let t = zip_end a.numbers.now a.values.now l.yielded c.into_iter-number-iterator.result l.number-iterator c.next.new.self c.next.result (cc) (cc) l.yielded_by c.in-None.is c.next.ensures.steps in
    putting_end _ _ _ l.buffer (length l.yielded) l.to l.invariant (omega (arith, length_with a.numbers.now a.values.now c.requires.numbers_len, t))
