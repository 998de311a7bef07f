use Rattle.command_code.proofs.is_list.Goals as goal

pub returns : goal.returns
returns c = simp c.remainder-over.ensures
