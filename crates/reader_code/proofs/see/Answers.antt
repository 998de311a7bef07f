use mathlib.Core.Path.{ap, ◌∙◌}
use Rattle.std.specs.Prelude.{Err}
use Rattle.std.proofs.lemmas.Result.{err_from_is_err_and}
use Rattle.reader.proofs.Answer.{seeable_at, seen_at, seen_nowhere}
use Rattle.reader_code.proofs.see.Goals as goal

pub returns-in_err-spot : goal.returns-in_err-spot
returns-in_err-spot g c =
    let k = err_from_is_err_and c.from_residual.result c.from_residual.ensures.1 in
    k.1 ∙ ap (λ (r : g.row.E.Denot). Err r) k.2 ∙ seen_nowhere _ _ _ _ c.in_err-spot.was

pub stored_pixel-requires : goal.stored_pixel-requires
stored_pixel-requires g c = seeable_at _ _ _ _ c.in_ok-spot.was c.requires

pub returns : goal.returns
returns g c = seen_at _ _ _ _ _ c.in_ok-spot.was c.stored_pixel.ensures
