use Prim.Native.Nat.{ℕ}
use mathlib.Core.Path.{◌≡◌, ap, sym, ◌∙◌}
use mathlib.Core.List.{List}
use Rattle.std.specs.Prelude.{Result, Ok, Err}
use Rattle.std.proofs.lemmas.Result.{err_from_is_err_and}
use Rattle.record.specs.Checks.{first_of}
use Rattle.refusal.specs.Number.{number_of, number_by}
use Rattle.refusal.specs.declared.Refusal.{Refusal}
use Rattle.screen.specs.Screen.{memory_size}
use Rattle.screen.specs.declared.Screen.{Screen}
use Rattle.command.specs.Command.{command_of, command_rows, refusal, command_answer}
use Rattle.command.specs.declared.Command.{Command}
use Rattle.command.proofs.Answer.{accepts, refuses, number_is}
use Rattle.command_code.proofs.read_command.Goals as goal

-- the answer's number with the answer
numbered : (s : Screen) (left : ℕ) (b : List ℕ) (r : Result Command Refusal) → r ≡ command_answer memory_size s left b → number_of r ≡ refusal memory_size s left b
numbered s left b r e = ap number_of e ∙ number_is memory_size s left b

-- the number is that of the record's own fields
table : (s : Screen) (left : ℕ) (b : List ℕ) (d : Command) (x : Result (Unit {0}) Refusal) → d ≡ command_of b → number_of x ≡ first_of (command_rows memory_size s left b d) → number_of x ≡ refusal memory_size s left b
unfolding refusal
table s left b d x e h = h ∙ ap (λ (d : Command). first_of (command_rows memory_size s left b d)) e

refused : (s : Screen) (left : ℕ) (b : List ℕ) (x : Result (Unit {0}) Refusal) (r : Refusal) (y : Result Command Refusal) → number_of x ≡ refusal memory_size s left b → x ≡ Err r → y ≡ Err r → y ≡ command_answer memory_size s left b
unfolding number_by
refused s left b x r y e f g = g ∙ refuses memory_size s left b r (ap number_of (sym f) ∙ e)

passed : (s : Screen) (left : ℕ) (b : List ℕ) (d : Command) (x : Result (Unit {0}) Refusal) (u : Unit {0}) → d ≡ command_of b → number_of x ≡ refusal memory_size s left b → x ≡ Ok u → Ok d ≡ command_answer memory_size s left b
unfolding number_by
passed s left b d x u f e z = rw f (accepts memory_size s left b (sym e ∙ ap number_of z))

pub returns-in_err-check_command-clause-value : goal.returns-in_err-check_command-clause-value
returns-in_err-check_command-clause-value c =
    let k = err_from_is_err_and c.from_residual.result c.from_residual.ensures.1 in
    refused _ _ _ c.check_command.result c.in_err-check_command.field-0.0 _
    (table _ _ _ _ _ c.command_of-c.ensures c.check_command.ensures)
    c.in_err-check_command.was
    (k.1 ∙ ap (λ (r : Refusal). Err r) k.2)

pub returns-in_err-check_command-clause-result_value : goal.returns-in_err-check_command-clause-result_value
returns-in_err-check_command-clause-result_value c = numbered _ _ _ _ (returns-in_err-check_command-clause-value c)

pub returns-clause-value : goal.returns-clause-value
returns-clause-value c =
    passed _ _ _ _ c.check_command.result c.in_ok-check_command.field-0 c.command_of-c.ensures
    (table _ _ _ _ _ c.command_of-c.ensures c.check_command.ensures)
    c.in_ok-check_command.was

pub returns-clause-result_value : goal.returns-clause-result_value
returns-clause-result_value c = numbered _ _ _ _ (returns-clause-value c)
