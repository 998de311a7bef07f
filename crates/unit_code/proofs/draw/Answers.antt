use Prim.Native.Nat.{ℕ}
use native.Mathlib.Nat.{sub-zero}
use native.Mathlib.Omega.{arith}
use lib.ListN.{take}
use lib.Seq.{length-take-le}
use mathlib.Core.Path.{◌≡◌, sym, ap, ◌∙◌}
use mathlib.Core.List.{List}
use borrow.Author.Rules.{rules}
use Rattle.std.specs.Prelude.{Result, Err}
use Rattle.std.proofs.lemmas.Result.{err_from_is_err_and}
use Rattle.refusal.specs.declared.Refused.{Refused}
use Rattle.command.specs.Task.{Task, task}
use Rattle.compiler.specs.Compile.{compiling_of}
use Rattle.chip.specs.Play.{playing_of}
use Rattle.unit.specs.declared.Drawn.{Drawn}
use Rattle.unit.proofs.Draw.{Drew, other_size, compile_refused, play_accepts, draw_accepted, part_fits}
use Rattle.unit_code.proofs.draw.Goals as goal

-- an answer that is another
the_same : (t : Task) (old memory : List ℕ) (r x : Result Drawn Refused) (stream new : List ℕ) → r ≡ x → Drew t old memory x stream new → Drew t old memory r stream new
the_same t old memory r x stream new e d = rw e d

pub returns-then-memory-ne-MEMORY_SIZE : goal.returns-then-memory-ne-MEMORY_SIZE
returns-then-memory-ne-MEMORY_SIZE c =
    let k = the_same (task c.args.form c.args.screen.now c.args.list.now c.args.words.now) c.args.stream.now c.args.memory.now _ _ _ _ (ap (λ (r : Refused). Err r) c.into.ensures)
    (other_size (task c.args.form c.args.screen.now c.args.list.now c.args.words.now) c.args.stream.now c.args.memory.now c.if-memory-ne-MEMORY_SIZE.true) in
    record { result_value = k.0; value = k.1.0; stream_after = k.1.1.0; memory_after = k.1.1.1 }

pub slice_bounds-play-end : goal.slice_bounds-play-end
slice_bounds-play-end c =
    omega (arith, part_fits (task c.args.form c.args.screen.now c.args.list.now c.args.words.now) c.args.stream.now c.args.memory.now c.if-memory-ne-MEMORY_SIZE.false _ c.compile_into.ensures.stream_after c.in_ok-compiled.compiled (ap compiling_of (sym c.in_ok-compiled.was) ∙ c.compile_into.ensures.result_value))

pub slice_bounds-play-end-2 : goal.slice_bounds-play-end-2
slice_bounds-play-end-2 c =
    let fits = part_fits (task c.args.form c.args.screen.now c.args.list.now c.args.words.now) c.args.stream.now c.args.memory.now c.if-memory-ne-MEMORY_SIZE.false _ c.compile_into.ensures.stream_after c.in_ok-compiled.compiled (ap compiling_of (sym c.in_ok-compiled.was) ∙ c.compile_into.ensures.result_value) in
    omega (arith, fits, length-take-le c.in_ok-compiled.compiled.length c.compile_into.new.stream fits)

pub returns-in_err-compiled : goal.returns-in_err-compiled
returns-in_err-compiled c =
    let e = err_from_is_err_and c.from_residual.result c.from_residual.ensures.1 in
    let k = the_same (task c.args.form c.args.screen.now c.args.list.now c.args.words.now) c.args.stream.now c.args.memory.now _ (Err c.in_err-compiled.field-0.0) _ _ (e.1 ∙ ap (λ (r : Refused). Err r) e.2)
    (compile_refused (task c.args.form c.args.screen.now c.args.list.now c.args.words.now) c.args.stream.now c.args.memory.now c.if-memory-ne-MEMORY_SIZE.false _ c.compile_into.ensures.stream_after c.in_err-compiled.field-0.0 (ap compiling_of (sym c.in_err-compiled.was) ∙ c.compile_into.ensures.result_value)) in
    record { result_value = k.0; value = k.1.0; stream_after = k.1.1.0; memory_after = k.1.1.1 }

pub returns-in_err-values : goal.returns-in_err-values
returns-in_err-values c =
    absurd (play_accepts (task c.args.form c.args.screen.now c.args.list.now c.args.words.now) c.args.stream.now c.args.memory.now c.if-memory-ne-MEMORY_SIZE.false _ c.compile_into.ensures.stream_after c.in_ok-compiled.compiled (ap compiling_of (sym c.in_ok-compiled.was) ∙ c.compile_into.ensures.result_value) (record { screen = λ k. (c.type_inv.screen k).fits; list = λ k. (c.type_inv.list k).fits; words = λ k. (c.type_inv.words k).fits }) (search rules) _ (ap (λ (k : ℕ). take k c.compile_into.new.stream) (sym (sub-zero c.in_ok-compiled.compiled.length))) c.in_err-values.field-0.0 (ap playing_of (sym c.in_err-values.was) ∙ c.play.ensures.result_value))

pub returns : goal.returns
returns c =
    let k = draw_accepted (task c.args.form c.args.screen.now c.args.list.now c.args.words.now) c.args.stream.now c.args.memory.now c.if-memory-ne-MEMORY_SIZE.false _ c.compile_into.ensures.stream_after c.in_ok-compiled.compiled (ap compiling_of (sym c.in_ok-compiled.was) ∙ c.compile_into.ensures.result_value) (record { screen = λ k. (c.type_inv.screen k).fits; list = λ k. (c.type_inv.list k).fits; words = λ k. (c.type_inv.words k).fits }) (search rules) _ (ap (λ (k : ℕ). take k c.compile_into.new.stream) (sym (sub-zero c.in_ok-compiled.compiled.length))) c.in_ok-values.values _ (ap playing_of (sym c.in_ok-values.was) ∙ c.play.ensures.result_value) c.play.ensures.memory_after in
    record { result_value = k.0; value = k.1.0; stream_after = k.1.1.0; memory_after = k.1.1.1 }
