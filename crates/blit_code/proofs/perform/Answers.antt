use Rattle.blit_code.proofs.Lines.{performs}
use Rattle.blit_code.proofs.perform.Goals as goal

pub returns-in-Colour : goal.returns-in-Colour
returns-in-Colour c = performs c.args.job _ _ _ c.in-Colour.is c.colour_lines.ensures

pub returns-in-Memory : goal.returns-in-Memory
returns-in-Memory c = performs c.args.job _ _ _ c.in-Memory.is c.move_lines.ensures

pub returns-in-Pattern : goal.returns-in-Pattern
returns-in-Pattern c = performs c.args.job _ _ _ c.in-Pattern.is c.pattern_fill.ensures
