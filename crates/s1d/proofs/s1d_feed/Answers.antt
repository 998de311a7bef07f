use Rattle.s1d.proofs.Lent.{answered, left_player}
use Rattle.s1d.proofs.s1d_feed.Goals as goal

pub returns : goal.returns
returns c =
    let next = c.take_block-next in
    record {
      value = answered next.result _ _ next.ensures.value;
      player_after = left_player next.result _ _ next.ensures.value;
      memory_after = next.ensures.memory_after;
    }
