use Prim.Native.Nat.{◌*◌, ◌≤◌}
use lib.ListN.{length}
use Rattle.text.proofs.Joined.{Filling}
use Rattle.text.specs.Lines.{hex_byte}
use Rattle.text_lines.proofs.put_bytes.Given as goal

abbrev pub invariant-loop-i : goal.invariant-loop-i
invariant-loop-i l = ((l.n ≤ length l.bytes) × (3 * l.n ≤ length l.initial.text)) × Filling (hex_byte l.bytes) l.n l.initial.text l.text l.i
