use Rattle.std.proofs.Common.{arith}
use Rattle.ring_code.proofs.Parts.{ring_by_parts}
use Rattle.ring_code.proofs.view_in.Goals as goal

pub returns-clause-ring : goal.returns-clause-ring
returns-clause-ring c = ring_by_parts c.args.cells.now (omega arith)
