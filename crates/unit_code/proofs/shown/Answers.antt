use mathlib.Core.Path.{◌≡◌, sym, ap, ◌∙◌}
use mathlib.Core.List.{List}
use Prim.Native.Nat.{ℕ}
use Rattle.std.specs.Prelude.{Result, Err}
use Rattle.std.proofs.lemmas.Result.{err_from_is_err_and}
use Rattle.refusal.specs.declared.Refusal.{Refusal}
use Rattle.reader.specs.declared.Point.{Point}
use Rattle.unit.proofs.Show.{Shown, show_size, screen_refused, screen_accepted}
use Rattle.unit_code.proofs.shown.Goals as goal

-- an answer that is another
the_same : (bytes : List ℕ) (p q : ℕ) (memory : List ℕ) (r x : Result Point Refusal) → r ≡ x → Shown bytes p q memory x → Shown bytes p q memory r
the_same bytes p q memory r x e d = rw e d

pub returns-then-memory-ne-MEMORY_SIZE : goal.returns-then-memory-ne-MEMORY_SIZE
returns-then-memory-ne-MEMORY_SIZE c =
    let k = show_size c.args.screen.now c.args.p c.args.q c.args.memory.now c.if-memory-ne-MEMORY_SIZE.true in
    record { result_value = k.0; value = k.1 }

pub returns-in_err-s : goal.returns-in_err-s
returns-in_err-s c =
    let e = err_from_is_err_and c.from_residual.result c.from_residual.ensures.1 in
    let k = the_same c.args.screen.now c.args.p c.args.q c.args.memory.now _ (Err c.in_err-s.field-0.0) (e.1 ∙ ap (λ (r : Refusal). Err r) e.2)
    (screen_refused c.args.screen.now c.args.p c.args.q c.args.memory.now c.if-memory-ne-MEMORY_SIZE.false c.in_err-s.field-0.0 (sym c.read_screen.ensures.value ∙ c.in_err-s.was)) in
    record { result_value = k.0; value = k.1 }

pub returns : goal.returns
returns c =
    let k = screen_accepted c.args.screen.now c.args.p c.args.q c.args.memory.now c.if-memory-ne-MEMORY_SIZE.false c.in_ok-s.s (sym c.read_screen.ensures.value ∙ c.in_ok-s.was) (λ k. (c.type_inv.memory k).fits) _ c.display_of-d.ensures _ c.screen_values-values.ensures _ c.read_point.ensures.result_value c.read_point.ensures.value in
    record { result_value = k.0; value = k.1 }
