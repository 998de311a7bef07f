use Prim.Native.Nat.{ℕ, ◌≤◌, ◌*◌}
use mathlib.Core.Path.{◌≡◌, refl, subst, sym, ap, ◌∙◌}
use mathlib.Core.List.{List}
use native.Mathlib.Omega.{arith}
use lib.ListN.{length}
use Rattle.std.specs.Prelude.{Result, Ok, Err}
use Rattle.std.proofs.lemmas.Result.{err_from_is_err_and, IfOk-at_ok}
use Rattle.refusal.specs.Number.{number, number_of, number_by}
use Rattle.refusal.specs.declared.Refusal.{Refusal}
use Rattle.refusal.specs.declared.Refused.{Refused}
use Rattle.screen.specs.Screen.{memory_size}
use Rattle.command.specs.Task.{Task, task}
use Rattle.command.proofs.Forms.{form_least, count_most}
use Rattle.command.proofs.Task.{list_says}
use Rattle.compiler.specs.declared.Compiled.{Compiled}
use Rattle.compiler.proofs.Outcome.{Told, told_screen, told_list, told_command, told_left, told_short, told_stream, second_asks}
use Rattle.compiler_code.proofs.compile_into.Goals as goal

-- what a check's number is, by what it answered
passed : (x : Result (Unit {0}) Refusal) (u : Unit {0}) (n : ℕ) → number_of x ≡ n → x ≡ Ok u → n ≡ 0
unfolding number_by
passed x u n e f = sym e ∙ ap number_of f

refused : (x : Result (Unit {0}) Refusal) (r : Refusal) (n : ℕ) → number_of x ≡ n → x ≡ Err r → number r ≡ n
unfolding number_by
refused x r n e f = sym (ap number_of f) ∙ e

-- a refusal that is handed on
handed : (m : ℕ) (t : Task) (old : List ℕ) (r : Refused) (x : Refused) (y : Result Compiled Refused) → y ≡ Err x → x ≡ r → Told m t old (Err r) old → Told m t old y old
handed m t old r x y e f k = subst (λ (z : Result Compiled Refused). Told m t old z old) (sym (e ∙ ap (λ (z : Refused). Err z) f)) k

pub returns-in_err-s : goal.returns-in_err-s
returns-in_err-s c =
    let a = c.args in
    let y = c.from_residual in
    let e = err_from_is_err_and y.result y.ensures.1 in
    let k = handed memory_size (task a.form a.screen.now a.list.now a.words.now) a.stream.now _ e.0 y.result e.1 e.2 (told_screen memory_size _ _ _ (sym c.read_screen.ensures.value ∙ c.in_err-s.was)) in
    record { result_value = k.0; value = k.1.0; stream_after = k.1.1 }

pub returns-in_err-check_list : goal.returns-in_err-check_list
returns-in_err-check_list c =
    let a = c.args in
    let y = c.from_residual-in_err-check_list in
    let e = err_from_is_err_and y.result y.ensures.1 in
    let k = handed memory_size (task a.form a.screen.now a.list.now a.words.now) a.stream.now _ e.0 y.result e.1 e.2
    (told_list memory_size _ _ _ (sym c.read_screen.ensures.value ∙ c.in_ok-s.was) _ (refused _ _ _ c.check_list.ensures c.in_err-check_list.was)) in
    record { result_value = k.0; value = k.1.0; stream_after = k.1.1 }

pub first_pass-requires : goal.first_pass-requires
first_pass-requires c =
    let k = list_says c.args.form c.in_ok-s.s c.args.list.now (passed _ _ _ c.check_list.ensures c.in_ok-check_list.was) in
    record { form_value = k.formed; list_len_bound = k.few }

pub returns-in_err-used : goal.returns-in_err-used
returns-in_err-used c =
    let a = c.args in
    let y = c.from_residual-in_err-used in
    let e = err_from_is_err_and y.result y.ensures.1 in
    let k = handed memory_size (task a.form a.screen.now a.list.now a.words.now) a.stream.now _ e.0 y.result e.1 e.2
    (told_command memory_size _ _ _ (sym c.read_screen.ensures.value ∙ c.in_ok-s.was) c.first_pass.result c.first_pass.ensures.value (passed _ _ _ c.check_list.ensures c.in_ok-check_list.was) _ c.in_err-used.was) in
    record { result_value = k.0; value = k.1.0; stream_after = k.1.1 }

pub returns-then-used-left : goal.returns-then-used-left
returns-then-used-left c =
    let a = c.args in
    let k = handed memory_size (task a.form a.screen.now a.list.now a.words.now) a.stream.now _ c.into.result _ refl c.into.ensures
    (told_left memory_size _ _ _ (sym c.read_screen.ensures.value ∙ c.in_ok-s.was) c.first_pass.result c.first_pass.ensures.value (passed _ _ _ c.check_list.ensures c.in_ok-check_list.was) _ c.in_ok-used.was c.if-used-left.true) in
    record { result_value = k.0; value = k.1.0; stream_after = k.1.1 }

pub nonzero_div-count : goal.nonzero_div-count
nonzero_div-count c = omega (arith, form_least c.args.form (list_says c.args.form c.in_ok-s.s c.args.list.now (passed _ _ _ c.check_list.ensures c.in_ok-check_list.was)).formed)

pub overflow_mul-length : goal.overflow_mul-length
overflow_mul-length c = omega (arith, count_most c.args.form (length c.args.list.now) (list_says c.args.form c.in_ok-s.s c.args.list.now (passed _ _ _ c.check_list.ensures c.in_ok-check_list.was)).few)

pub overflow_add-length : goal.overflow_add-length
overflow_add-length c = omega (arith, count_most c.args.form (length c.args.list.now) (list_says c.args.form c.in_ok-s.s c.args.list.now (passed _ _ _ c.check_list.ensures c.in_ok-check_list.was)).few)

pub overflow_add-length-2 : goal.overflow_add-length-2
overflow_add-length-2 c =
    omega (arith, count_most c.args.form (length c.args.list.now) (list_says c.args.form c.in_ok-s.s c.args.list.now (passed _ _ _ c.check_list.ensures c.in_ok-check_list.was)).few, IfOk-at_ok (λ (n : ℕ). n ≤ 64 * 4294967295) c.in_ok-used.was c.first_pass.ensures.used_bound)

pub returns-then-stream-length : goal.returns-then-stream-length
returns-then-stream-length c =
    let a = c.args in
    let y = c.into-then-stream-length in
    let k = handed memory_size (task a.form a.screen.now a.list.now a.words.now) a.stream.now _ y.result _ refl y.ensures
    (told_short memory_size _ _ _ (sym c.read_screen.ensures.value ∙ c.in_ok-s.was) c.first_pass.result c.first_pass.ensures.value (passed _ _ _ c.check_list.ensures c.in_ok-check_list.was) _ c.in_ok-used.was c.if-used-left.false c.if-stream-length.true) in
    record { result_value = k.0; value = k.1.0; stream_after = k.1.1 }

pub second_pass-requires : goal.second_pass-requires
second_pass-requires c =
    let a = c.args in
    let k = second_asks memory_size (task a.form a.screen.now a.list.now a.words.now) a.stream.now _ (sym c.read_screen.ensures.value ∙ c.in_ok-s.was) c.first_pass.result c.first_pass.ensures.value (passed _ _ _ c.check_list.ensures c.in_ok-check_list.was) _ c.in_ok-used.was c.if-used-left.false c.if-stream-length.false _ c.put_screen.ensures in
    record { form_value = k.0; list_value = k.1.0; list_in_bounds = k.1.1 }

pub returns : goal.returns
returns c =
    let a = c.args in
    let k = told_stream memory_size (task a.form a.screen.now a.list.now a.words.now) a.stream.now _ (sym c.read_screen.ensures.value ∙ c.in_ok-s.was) c.first_pass.result c.first_pass.ensures.value (passed _ _ _ c.check_list.ensures c.in_ok-check_list.was) _ c.in_ok-used.was c.if-used-left.false c.if-stream-length.false _ _ c.put_screen.ensures c.second_pass.ensures in
    record { result_value = k.0; value = k.1.0; stream_after = k.1.1 }
