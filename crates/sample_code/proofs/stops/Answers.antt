use Rattle.sample.proofs.Meanings.{stops_space, stops_ink, stops_line_end}
use Rattle.sample_code.proofs.stops.Goals as goal

pub returns-in-Space : goal.returns-in-Space
returns-in-Space c = stops_space _ _ c.in-Space.is

pub returns-in-Ink : goal.returns-in-Ink
returns-in-Ink c = stops_ink _ _ c.in-Ink.is

pub returns-in-LineEnd : goal.returns-in-LineEnd
returns-in-LineEnd c = stops_line_end _ _ c.in-LineEnd.is
