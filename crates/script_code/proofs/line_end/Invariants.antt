use mathlib.Core.Path.{◌≡◌}
use Rattle.script.specs.Script.{line_end}
use Rattle.script_code.proofs.line_end.Given as goal

abbrev pub invariant-loop-i : goal.invariant-loop-i
invariant-loop-i l = line_end l.text l.i ≡ line_end l.text l.at
