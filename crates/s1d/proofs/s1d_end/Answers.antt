use Rattle.s1d.proofs.Lent.{answered, left_player}
use Rattle.s1d.proofs.s1d_end.Goals as goal

pub returns : goal.returns
returns c =
    let next = c.take_end-next in
    record { value = answered next.result _ _ next.ensures; player_after = left_player next.result _ _ next.ensures }
