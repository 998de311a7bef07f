use mathlib.Core.Path.{◌≡◌}
use Prim.Native.Nat.{◌+◌, ◌-◌, ◌≤◌, min}
use lib.ListN.{length, drop}
use lib.Seq.{sets}
use Rattle.text_code.proofs.put.Given as goal

abbrev pub invariant-loop-i : goal.invariant-loop-i
invariant-loop-i l = record {
  room : l.at ≤ length l.initial.text;
  most : l.n ≡ min (length l.bytes) (length l.initial.text - l.at);
  same : length l.text ≡ length l.initial.text;
  rest : sets l.initial.text l.at l.bytes ≡ sets l.text (l.at + l.i) (drop l.i l.bytes);
}
