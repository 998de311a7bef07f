use Rattle.command_share.proofs.Clash.{pattern_shared}
use native.Mathlib.Omega.{arith}
use Rattle.command_share.proofs.is_pattern_shared.Goals as goal

pub lines_meet-requires : goal.lines_meet-requires
lines_meet-requires c = (c.destination_of-destination.ensures.1, omega arith)

pub returns : goal.returns
returns c = pattern_shared _ _ _ _ _ _ c.surface_of-on.ensures c.line_bytes-size.ensures c.destination_of-destination.ensures.0 c.lines_meet.ensures
