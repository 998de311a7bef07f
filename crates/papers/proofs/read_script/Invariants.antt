use Rattle.std.proofs.Common.{length, ◌-◌, ◌≤◌}
use Rattle.papers.proofs.read_script.Given as goal

abbrev pub invariant-loop-done : goal.invariant-loop-done
invariant-loop-done g l = l.done ≤ length l.script

abbrev pub decreases-loop-done : goal.decreases-loop-done
decreases-loop-done g l = length l.initial.script - l.done
