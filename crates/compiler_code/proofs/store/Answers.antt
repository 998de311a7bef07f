use mathlib.Core.Path.{ap, ap₂, sym, ◌∙◌}
use mathlib.Core.List.{[], ◌∷◌}
use Prim.Native.Nat.{ℕ}
use Rattle.std.specs.Prelude.{Result}
use Rattle.compiler.specs.Compile.{compiling_by, numbers_of}
use Rattle.compiler.specs.declared.Compiled.{Compiled}
use Rattle.compiler_code.proofs.store.Goals as goal

pub returns-in-Ok : goal.returns-in-Ok
unfolding numbers_of compiling_by
returns-in-Ok g c = ap (λ (d : Result Compiled g.row.E.Denot). numbers_of (compiling_by g.E.Numbered.number_in g.E.Numbered.place_in d)) (sym c.in-Ok.is)

pub returns-in-Err : goal.returns-in-Err
unfolding numbers_of compiling_by
returns-in-Err g c =
    ap₂ (λ (n place : ℕ). n ∷ place ∷ 0 ∷ 0 ∷ 0 ∷ 0 ∷ []) c.as_number.ensures c.as_place.ensures
    ∙ ap (λ (d : Result Compiled g.row.E.Denot). numbers_of (compiling_by g.E.Numbered.number_in g.E.Numbered.place_in d)) (sym c.in-Err.is)
