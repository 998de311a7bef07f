use mathlib.Core.Path.{sym}
use lib.Seq.{length-take-le}
use lib.ListN.{length-set}
use Rattle.compile.proofs.print_part.Goals as goal

pub slice_bounds-print-end : goal.slice_bounds-print-end
slice_bounds-print-end g c = sym (length-take-le _ _ (simp length-set c.put_bytes-n.ensures.prefix_len.0))
