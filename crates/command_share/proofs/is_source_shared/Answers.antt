use Rattle.command_share.proofs.Clash.{source_apart, source_shared}
use Rattle.command_share.proofs.is_source_shared.Goals as goal

pub returns-then-destination-source : goal.returns-then-destination-source
returns-then-destination-source c = source_apart _ _ _ _ c.destination_of-destination.ensures.0 c.source_of-source.ensures.0 c.if-destination-source.true

pub returns : goal.returns
returns c = source_shared _ _ _ _ c.destination_of-destination.ensures.0 c.source_of-source.ensures.0 _ _ _ c.surface_of-on.ensures c.line_bytes-size.ensures c.if-destination-source.false c.lines_meet.ensures
