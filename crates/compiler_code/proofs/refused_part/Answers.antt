use Prim.Native.Nat.{ℕ, ◌+◌, ◌≤◌}
use mathlib.Core.Path.{◌≡◌, refl}
use mathlib.Core.List.{List}
use Rattle.compiler.specs.Part.{part_from, part_size}
use native.Mathlib.Omega.{arith}
use lib.ListN.{length}
use Rattle.compiler.specs.Compile.{Compiling, compiling_by}
use Rattle.compiler.proofs.Parts.{part_fits, part_is}
use Rattle.compiler_code.proofs.refused_part.Goals as goal

-- the part ends in the list
ends : (form : ℕ) (list : List ℕ) (a : Compiling) (at n : ℕ) → at ≡ part_from form list a → n ≡ part_size form list a → at + n ≤ length list
ends form list a at n e f = omega (arith, e, f, part_fits form list a)

pub overflow_add-end : goal.overflow_add-end
overflow_add-end g c = omega (arith, ends c.args.form c.args.list.now (compiling_by g.E.Numbered.number_in g.E.Numbered.place_in c.args.c) c.part_of-p.result.at c.part_of-p.result.length c.part_of-p.ensures.0 c.part_of-p.ensures.1)

pub slice_bounds-result-end : goal.slice_bounds-result-end
slice_bounds-result-end g c = omega (arith, ends c.args.form c.args.list.now (compiling_by g.E.Numbered.number_in g.E.Numbered.place_in c.args.c) c.part_of-p.result.at c.part_of-p.result.length c.part_of-p.ensures.0 c.part_of-p.ensures.1)

pub returns : goal.returns
returns g c = part_is c.args.form c.args.list _ (compiling_by g.E.Numbered.number_in g.E.Numbered.place_in c.args.c) _ _ c.part_of-p.ensures.0 c.part_of-p.ensures.1 refl refl
