use Rattle.sample.proofs.Runs.{all_behind}
use mathlib.Core.Path.{◌∙◌}
use Rattle.sample_code.proofs.behind_run.Goals as goal

pub returns : goal.returns
returns c = all_behind c.args.s.now c.run_end-from.result ∙ c.run_end-from.ensures.s_value_2
