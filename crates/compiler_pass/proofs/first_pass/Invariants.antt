use Prim.Native.Nat.{◌*◌, ◌/◌}
use mathlib.Core.Path.{◌≡◌}
use lib.ListN.{length, drop}
use Rattle.std.specs.Iterator.Adapters.{enumerate_source, enumerate_count}
use Rattle.std.specs.Slice.Iter.{chunks_exact_rest, chunks_exact_size}
use Rattle.screen.specs.Screen.{memory_size}
use Rattle.compiler.proofs.FirstPass.{Going}
use Rattle.compiler_pass.proofs.first_pass.Given as goal

abbrev pub invariant-loop-i : goal.invariant-loop-i
invariant-loop-i l = record {
  going : Going memory_size l.s l.form l.list l.left (length l.list / l.form) (length l.yielded) l.used;
  count : enumerate_count l.i-iterator ≡ length l.yielded;
  size : chunks_exact_size (enumerate_source l.i-iterator) ≡ l.form;
  rest : chunks_exact_rest (enumerate_source l.i-iterator) ≡ drop (length l.yielded * l.form) l.list;
}
