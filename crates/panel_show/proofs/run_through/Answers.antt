use mathlib.Core.Path.{◌∙◌}
use Rattle.unit.proofs.Draw.{nothing_drawn}
use Rattle.panel_show.proofs.run_through.Goals as goal

pub returns-in-Ok : goal.returns-in-Ok
returns-in-Ok g c = c.run.ensures ∙ nothing_drawn _ _ _ _ _ ∙ c.draw_on-whole.ensures.memory_after
