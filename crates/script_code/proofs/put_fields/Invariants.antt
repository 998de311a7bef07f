use mathlib.Core.Path.{◌≡◌}
use lib.ListN.{length, drop}
use Rattle.script.specs.Script.{fields_put}
use Rattle.script_code.proofs.put_fields.Given as goal

abbrev pub invariant-loop-i : goal.invariant-loop-i
invariant-loop-i l = (length l.bytes ≡ length l.initial.bytes) × (fields_put l.line 0 l.places l.initial.bytes ≡ fields_put l.line l.i (drop l.i l.places) l.bytes)
