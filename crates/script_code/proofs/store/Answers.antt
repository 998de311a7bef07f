use mathlib.Core.Path.{◌∙◌}
use Rattle.script.specs.Script.{number_put}
use Rattle.script_code.proofs.store.Goals as goal

pub returns : goal.returns
returns c = c.put_number.ensures ∙ (λ t. number_put c.args.bytes.now (c.number.ensures t) (c.number-2.ensures t))
