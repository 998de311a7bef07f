use Rattle.panel_show.proofs.draw_on.Goals as goal

pub returns : goal.returns
returns c = let d = c.draw.ensures in rw c.stream-stream.ensures.size (record { value = d.value; memory_after = d.memory_after })
