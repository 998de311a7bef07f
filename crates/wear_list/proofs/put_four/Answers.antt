use Rattle.wear.proofs.Commands.{sixteen_stored}
use Rattle.wear_list.proofs.put_four.Goals as goal

pub returns : goal.returns
returns c = let a = c.args in sixteen_stored a.list.now a.at a.a a.b a.c a.d c.put_number.ensures c.put_number-2.ensures c.put_number-3.ensures c.put_number-4.ensures
