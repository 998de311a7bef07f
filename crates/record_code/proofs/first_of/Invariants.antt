-- The checks so far have passed: those that are left decide.
use mathlib.Core.Path.{◌≡◌}
use lib.ListN.{drop}
use Rattle.record.specs.Checks.{first_of}
use Rattle.refusal.specs.Number.{rows_from}
use Rattle.record_code.proofs.first_of.Given as goal

abbrev pub invariant-loop-refusal : goal.invariant-loop-refusal
invariant-loop-refusal g l = first_of (rows_from g.T.Numbered.number_in l.checks) ≡ first_of (rows_from g.T.Numbered.number_in (drop l.refusal-index l.checks))
