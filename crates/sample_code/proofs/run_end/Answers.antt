use Rattle.sample.proofs.Runs.{Ended, run_end}
use mathlib.Core.Path.{ap, sym, subst, ◌∙◌}
use Rattle.std.proofs.Common.{Option, ℕ, length}
use Rattle.std.specs.Option.{unwrap_or}
use Rattle.sample_code.proofs.run_end.Goals as goal

pub returns : goal.returns
returns c =
    let s = c.args.s.now in
    let e = subst (λ (n : ℕ). Ended c.args.stop s n) (sym (c.unwrap_or.ensures ∙ ap (λ (p : Option ℕ). unwrap_or p (length s)) c.first_stop.ensures)) (run_end c.args.stop s) in
    record { upper_bound = e.within; s_value = e.front; s_value_2 = e.rest }
