use lib.Seq.{length-take-le}
use lib.ListN.{length, take, drop}
use mathlib.Core.List.{List}
use Rattle.script.specs.Script.{number_at}
use Rattle.std.proofs.Common.{min, ◌≢◌}
use mathlib.Core.Path.{◌≡◌, refl, sym, ap, ◌∙◌}
use Rattle.refusal.specs.Number.{told_by}
use Prim.Native.Nat.{ℕ, ◌+◌, ◌-◌, ◌*◌, ◌%◌}
use native.Mathlib.Omega.{arith}
use borrow.Author.Tests.{eq-eqb, ne_eqb}
use Rattle.screen.specs.Screen.{memory_size}
use Rattle.command.specs.Task.{task}
use Rattle.compiler.specs.Compile.{compiling, buffer_after, answer_of}
use Rattle.older.specs.Compile.{older_compiling, older_buffer}
use Rattle.record.proofs.Choice.{yes, no}
use Rattle.script.specs.Steps.{form_on, list_on, words_on, compiled_after, stream_after}
use Rattle.script.proofs.Desk.{taken, list_on_lem, at_parts, one_record}
use Rattle.script_steps.proofs.compile.Goals as goal

-- what is told of the lent parts is told of the list and the host words on the desk
on_desk : {A : Type 0} (f : ℕ → List ℕ → List ℕ → A) {r : A} (desk words : List ℕ) (form n m k : ℕ) → form ≡ form_on desk
    → n ≡ number_at desk 80 → m ≡ min k (length words) → k ≡ number_at desk 84
    → r ≡ f form (take (32 + form * (n % 2) - 32) (drop 32 desk)) (take m words) → r ≡ f (form_on desk) (list_on desk) (words_on desk words)
on_desk f desk words form n m k is two least count e = at_parts f e is (list_on_lem desk form n is two) (taken words m k _ least count)

pub overflow_mul-end : goal.overflow_mul-end
overflow_mul-end g c = omega (arith, one_record c.form_on-form.result c.number_at-2.result c.form_on-form.ensures.1)

pub overflow_cast-end : goal.overflow_cast-end
overflow_cast-end g c = omega (arith, one_record c.form_on-form.result c.number_at-2.result c.form_on-form.ensures.1)

pub overflow_add-end : goal.overflow_add-end
overflow_add-end g c = omega (arith, one_record c.form_on-form.result c.number_at-2.result c.form_on-form.ensures.1)

pub slice_bounds-screen-end : goal.slice_bounds-screen-end
slice_bounds-screen-end g c = sym (length-take-le 32 c.args.desk.now (omega arith))

pub slice_bounds-list-end : goal.slice_bounds-list-end
slice_bounds-list-end g c = omega (arith, one_record c.form_on-form.result c.number_at-2.result c.form_on-form.ensures.1)

pub returns-in-1886220131 : goal.returns-in-1886220131
unfolding compiled_after stream_after
returns-in-1886220131 g c =
    let a = c.args in
    let is = eq-eqb _ _ c.in-1886220131.is in record { value = yes _ is (c.told.ensures ∙ ap (told_by g.E.Told.told) (on_desk (λ n l w. answer_of (compiling memory_size (task n (take 32 a.desk.now) l w) (length a.stream.now))) a.desk.now a.words.now _ _ _ _ c.form_on-form.ensures.0 c.number_at-2.ensures c.min-n.ensures c.number_at.ensures c.compile_into.ensures.value)); stream_after = yes _ is (on_desk (λ n l w. buffer_after memory_size (task n (take 32 a.desk.now) l w) a.stream.now) a.desk.now a.words.now _ _ _ _ c.form_on-form.ensures.0 c.number_at-2.ensures c.min-n.ensures c.number_at.ensures c.compile_into.ensures.stream_after) }

pub returns-in-1701080175 : goal.returns-in-1701080175
unfolding compiled_after stream_after
returns-in-1701080175 g c =
    let a = c.args in
    let not_compile : c.args.k ≢ 1886220131 = omega arith in
    let first = ne_eqb _ _ not_compile in
    let is = eq-eqb _ _ c.in-1701080175.is in record { value = no _ first (yes _ is (c.told-in-1701080175.ensures ∙ ap (told_by g.E.Told.told) (on_desk (λ n l w. answer_of (older_compiling (task n (take 32 a.desk.now) l w) (length a.stream.now))) a.desk.now a.words.now _ _ _ _ c.form_on-form.ensures.0 c.number_at-2.ensures c.min-n.ensures c.number_at.ensures c.compile_into-in-1701080175.ensures.value))); stream_after = no _ first (yes _ is (on_desk (λ n l w. older_buffer (task n (take 32 a.desk.now) l w) a.stream.now) a.desk.now a.words.now _ _ _ _ c.form_on-form.ensures.0 c.number_at-2.ensures c.min-n.ensures c.number_at.ensures c.compile_into-in-1701080175.ensures.stream_after)) }

pub returns-in_default : goal.returns-in_default
unfolding compiled_after stream_after
returns-in_default g c = let not_compile : c.args.k ≢ 1886220131 = omega arith in
    let first = ne_eqb _ _ not_compile in
    let not_older : c.args.k ≢ 1701080175 = omega arith in
    let second = ne_eqb _ _ not_older in
    record { value = no _ first (no _ second refl); stream_after = no _ first (no _ second refl) }
