use lib.Seq.{length-take-le}
use mathlib.Core.Path.{sym}
use Rattle.sample_code.proofs.before_stop.Goals as goal

pub slice_bounds-result-end : goal.slice_bounds-result-end
slice_bounds-result-end c = sym (length-take-le _ _ c.run_end-n.ensures.upper_bound)
