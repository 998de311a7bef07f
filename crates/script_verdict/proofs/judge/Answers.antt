use mathlib.Core.Path.{refl}
use Rattle.script.specs.Verdict.{judged}
use Rattle.script_verdict.proofs.judge.Goals as goal

pub returns : goal.returns
unfolding judged
returns c = refl
