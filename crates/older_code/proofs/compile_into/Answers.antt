use Prim.Native.Nat.{ℕ}
use mathlib.Core.Path.{◌≡◌, subst, sym, ap, ◌∙◌}
use mathlib.Core.List.{List}
use Rattle.std.specs.Prelude.{Result, Ok, Err}
use Rattle.std.proofs.lemmas.Result.{err_from_is_err_and}
use Rattle.refusal.specs.Number.{number, number_of, number_by}
use Rattle.refusal.specs.declared.Refusal.{Refusal}
use Rattle.refusal.specs.declared.Refused.{Refused}
use Rattle.command.specs.Task.{Task, task}
use Rattle.compiler.specs.declared.Compiled.{Compiled}
use Rattle.older.proofs.Outcome.{Told, told_screen, told_lent, room, told_stream}
use Rattle.older_code.proofs.compile_into.Goals as goal

-- what a check's number is, by what it answered
passed : (x : Result (Unit {0}) Refusal) (u : Unit {0}) (n : ℕ) → number_of x ≡ n → x ≡ Ok u → n ≡ 0
unfolding number_by
passed x u n e f = sym e ∙ ap number_of f

refused : (x : Result (Unit {0}) Refusal) (r : Refusal) (n : ℕ) → number_of x ≡ n → x ≡ Err r → number r ≡ n
unfolding number_by
refused x r n e f = sym (ap number_of f) ∙ e

-- a refusal that is handed on
handed : (t : Task) (old : List ℕ) (r : Refused) (x : Refused) (y : Result Compiled Refused) → y ≡ Err x → x ≡ r → Told t old (Err r) old → Told t old y old
handed t old r x y e f k = subst (λ (z : Result Compiled Refused). Told t old z old) (sym (e ∙ ap (λ (z : Refused). Err z) f)) k

pub returns-in_err-s : goal.returns-in_err-s
returns-in_err-s c =
    let a = c.args in
    let y = c.from_residual in
    let e = err_from_is_err_and y.result y.ensures.1 in
    let k = handed (task a.form a.screen.now a.list.now a.words.now) a.stream.now _ e.0 y.result e.1 e.2 (told_screen _ _ _ (sym c.read_screen_in.ensures.value ∙ c.in_err-s.was)) in
    record { result_value = k.0; value = k.1.0; stream_after = k.1.1 }

pub returns-in_err-check_lent : goal.returns-in_err-check_lent
returns-in_err-check_lent c =
    let a = c.args in
    let y = c.from_residual-in_err-check_lent in
    let e = err_from_is_err_and y.result y.ensures.1 in
    let k = handed (task a.form a.screen.now a.list.now a.words.now) a.stream.now _ e.0 y.result e.1 e.2
    (told_lent _ _ _ (sym c.read_screen_in.ensures.value ∙ c.in_ok-s.was) _ (refused _ _ _ c.check_lent.ensures c.in_err-check_lent.was)) in
    record { result_value = k.0; value = k.1.0; stream_after = k.1.1 }

pub put_screen-requires : goal.put_screen-requires
put_screen-requires c = let a = c.args in
    room (task a.form a.screen.now a.list.now a.words.now) a.stream.now _ (sym c.read_screen_in.ensures.value ∙ c.in_ok-s.was) (passed _ _ _ c.check_lent.ensures c.in_ok-check_lent.was)

pub returns : goal.returns
returns c =
    let a = c.args in
    let k = told_stream (task a.form a.screen.now a.list.now a.words.now) a.stream.now _ (sym c.read_screen_in.ensures.value ∙ c.in_ok-s.was) (passed _ _ _ c.check_lent.ensures c.in_ok-check_lent.was) _ c.put_screen.ensures in
    record { result_value = k.0; value = k.1.0; stream_after = k.1.1 }
