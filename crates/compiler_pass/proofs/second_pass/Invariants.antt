use Prim.Native.Nat.{◌*◌, ◌/◌}
use mathlib.Core.Path.{◌≡◌}
use lib.ListN.{length, drop}
use Rattle.std.specs.Slice.Iter.{chunks_exact_rest, chunks_exact_size}
use Rattle.screen.specs.Screen.{memory_size}
use Rattle.compiler.proofs.SecondPass.{Writing}
use Rattle.compiler_pass.proofs.second_pass.Given as goal

abbrev pub invariant-loop-part : goal.invariant-loop-part
invariant-loop-part l = record {
  writing : Writing memory_size l.s l.form l.list l.words l.initial.buffer l.buffer (length l.list / l.form) (length l.yielded) l.used l.at;
  size : chunks_exact_size l.part-iterator ≡ l.form;
  left : chunks_exact_rest l.part-iterator ≡ drop (length l.yielded * l.form) l.list;
}
