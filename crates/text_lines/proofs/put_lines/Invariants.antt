use Prim.Native.Nat.{◌*◌, ◌≤◌}
use lib.ListN.{length}
use Rattle.text.proofs.Joined.{Filling}
use Rattle.text.specs.Lines.{stream_line}
use Rattle.text_lines.proofs.put_lines.Given as goal

abbrev pub invariant-loop-i : goal.invariant-loop-i
invariant-loop-i l = ((8 * l.n ≤ length l.stream) × (18 * l.n ≤ length l.initial.text)) × Filling (stream_line l.stream) l.n l.initial.text l.text l.i
