use Prim.Native.Nat.{ℕ, ◌+◌, ◌<◌, ◌-◌}
use mathlib.Core.Path.{ap, sym, ◌∙◌}
use native.Mathlib.Nat.{zero-mul}
use native.Mathlib.Omega.{arith}
use lib.ListN.{length}
use Rattle.std.specs.Iterator.Adapters.{enumerate_source}
use Rattle.std.specs.Slice.Iter.{chunks_exact_rest}
use Rattle.std.proofs.lemmas.List.{length_push}
use Rattle.screen.specs.Screen.{memory_size}
use Rattle.command.specs.Command.{command_answer}
use Rattle.command.specs.Task.{is_form}
use Rattle.command.proofs.Forms.{form_least, count_most}
use Rattle.compiler.proofs.FirstPass.{going_start, going_turn, words_fit, pass_refused, pass_done}
use Rattle.compiler_pass.proofs.Parts.{cut, cut_end}
use Rattle.compiler_pass.proofs.first_pass.Goals as goal

pub loop-i-init : goal.loop-i-init
loop-i-init c = record { going = going_start _ _ _ _ _; count = cc; size = cc; rest = rw zero-mul (cc) }

pub read_command-requires : goal.read_command-requires
read_command-requires c = let a = c.args in
    let l = c.loop-i in
    let i = length l.yielded in
    let some : 0 < a.form = omega (arith, form_least a.form c.requires.form_value) in
    let step = c.in-Some.ensures.steps.0 in
    ap is_form (step.1.1 ∙ l.invariant.size) ∙ c.requires.form_value

pub returns-in-Err-clause-value : goal.returns-in-Err-clause-value
returns-in-Err-clause-value c = let a = c.args in
    let l = c.loop-i in
    let i = length l.yielded in
    let some : 0 < a.form = omega (arith, form_least a.form c.requires.form_value) in
    let step = c.in-Some.ensures.steps.0 in
    let t = cut a.form a.list.now some (chunks_exact_rest (enumerate_source l.i-iterator)) i l.invariant.rest c.in-Some.part.now (chunks_exact_rest (enumerate_source c.next.new.self)) step.1.0 (step.1.1 ∙ l.invariant.size) in
    let answer = ap (command_answer memory_size a.s (a.left - l.used)) (sym t.part_is) ∙ sym c.read_command.ensures.value in
    let place = c.in-Some.ensures.steps.1 ∙ l.invariant.count in
    rw place (pass_refused _ _ _ _ _ _ i l.used l.invariant.going _ t.more (answer ∙ c.in-Err.is))

pub overflow_add-used : goal.overflow_add-used
overflow_add-used c = let a = c.args in
    let l = c.loop-i in
    let i = length l.yielded in
    let some : 0 < a.form = omega (arith, form_least a.form c.requires.form_value) in
    let step = c.in-Some.ensures.steps.0 in
    let t = cut a.form a.list.now some (chunks_exact_rest (enumerate_source l.i-iterator)) i l.invariant.rest c.in-Some.part.now (chunks_exact_rest (enumerate_source c.next.new.self)) step.1.0 (step.1.1 ∙ l.invariant.size) in
    let answer = ap (command_answer memory_size a.s (a.left - l.used)) (sym t.part_is) ∙ sym c.read_command.ensures.value in
    omega (arith, c.words_taken.ensures, words_fit _ _ _ _ _ _ i l.used l.invariant.going _ (answer ∙ c.in-Ok.is))

pub loop-i-preserved : goal.loop-i-preserved
loop-i-preserved c = let a = c.args in
    let l = c.loop-i in
    let i = length l.yielded in
    let some : 0 < a.form = omega (arith, form_least a.form c.requires.form_value) in
    let step = c.in-Some.ensures.steps.0 in
    let t = cut a.form a.list.now some (chunks_exact_rest (enumerate_source l.i-iterator)) i l.invariant.rest c.in-Some.part.now (chunks_exact_rest (enumerate_source c.next.new.self)) step.1.0 (step.1.1 ∙ l.invariant.size) in
    let answer = ap (command_answer memory_size a.s (a.left - l.used)) (sym t.part_is) ∙ sym c.read_command.ensures.value in
    record {
      going = rw (length_push, c.words_taken.ensures)
          (going_turn _ _ _ _ _ _ i l.used l.invariant.going _ t.more (omega (arith, c.words_taken.ensures, c.words_taken.type_inv)) (answer ∙ c.in-Ok.is));
      count = rw length_push (c.in-Some.ensures.steps.2 ∙ ap (λ (k : ℕ). k + 1) l.invariant.count);
      size = step.0 ∙ l.invariant.size;
      rest = rw length_push t.rest_is;
    }

pub returns-clause-value : goal.returns-clause-value
returns-clause-value c = let a = c.args in
    let l = c.loop-i in
    let some : 0 < a.form = omega (arith, form_least a.form c.requires.form_value) in
    let less = c.in-None.ensures.steps.0.1.0 in
    pass_done _ _ _ _ _ _ (length l.yielded) l.used l.invariant.going (cut_end a.form a.list.now some (chunks_exact_rest (enumerate_source l.i-iterator)) (length l.yielded) l.invariant.rest (omega (arith, less, l.invariant.size)))

pub returns-clause-used_bound : goal.returns-clause-used_bound
returns-clause-used_bound c = let g = c.loop-i.invariant.going in
    omega (arith, g.small, g.within, count_most c.args.form (length c.args.list.now) c.requires.list_len_bound)
