use Rattle.sample.proofs.Meanings.{way_out, no_sequence, no_height, too_high, is_sample, not_short, short}
use Rattle.std.proofs.Common.{is_ok}
use Rattle.std.specs.Result.{result_ok}
use Rattle.sample.specs.Line.{given}
use Prim.Native.Nat.{ℕ}
use mathlib.Core.Path.{sym, ap, ◌∙◌}
use Rattle.sample_code.proofs.sample_with.Goals as goal

pub returns-in_err-a : goal.returns-in_err-a
returns-in_err-a c = way_out _ c.from_residual.ensures.0 ∙ no_sequence _ _ (sym c.ok_or.ensures.variant ∙ ap is_ok c.in_err-a.was)

pub returns-in_err-height : goal.returns-in_err-height
returns-in_err-height c = way_out _ c.from_residual-in_err-height.ensures.0 ∙ no_height _ _ (sym c.ok_or-2.ensures.variant ∙ ap is_ok c.in_err-height.was)

pub returns-in_err-sequence : goal.returns-in_err-sequence
returns-in_err-sequence c =
    way_out _ c.from_residual-in_err-sequence.ensures.0
    ∙ too_high _ _ _ _ (c.ok_or.ensures.ok_part ∙ ap result_ok c.in_ok-a.was) (c.ok_or-2.ensures.ok_part ∙ ap result_ok c.in_ok-height.was) (not_short _ _ c.try_from.ensures (sym c.map_err.ensures.variant ∙ ap is_ok c.in_err-sequence.was))

pub returns : goal.returns
returns c =
    let v = c.map_err.ensures in
    let k = short _ _ _ _ c.in_ok-sequence.sequence c.try_from.ensures v.cases v.variant c.in_ok-sequence.was in
    ap (λ (n : ℕ). given n c.in_ok-height.height) (sym k.0) ∙ is_sample _ _ _ _ (c.ok_or.ensures.ok_part ∙ ap result_ok c.in_ok-a.was) (c.ok_or-2.ensures.ok_part ∙ ap result_ok c.in_ok-height.was) k.1
