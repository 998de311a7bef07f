use Prim.Native.Nat.{◌≤◌}
use mathlib.Core.Path.{◌≡◌}
use lib.ListN.{drop}
use Rattle.script.specs.Script.{scan_bytes, number_of}
use Rattle.script_code.proofs.number.Given as goal

abbrev pub invariant-loop-i : goal.invariant-loop-i
invariant-loop-i l = (l.s.blanks ≤ l.i) × (number_of l.line l.k ≡ (scan_bytes l.k l.s (drop l.i l.line)).value)
