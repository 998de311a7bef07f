-- What is found before a check and what is found from it on are all that is found.
use mathlib.Core.Path.{◌≡◌}
use mathlib.Core.Bool.{◌||◌}
use lib.ListN.{drop}
use Rattle.record.specs.Checks.{any_of}
use Rattle.refusal.specs.Number.{found_by}
use Rattle.record_code.proofs.any_of.Given as goal

abbrev pub invariant-loop-found : goal.invariant-loop-found
invariant-loop-found g l = any_of (found_by l.checks) ≡ l.any || any_of (found_by (drop l.found-index l.checks))
