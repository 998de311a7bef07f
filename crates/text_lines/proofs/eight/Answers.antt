use Rattle.text_lines.proofs.eight.Goals as goal

pub returns : goal.returns
returns c = simp (c.letter-8.ensures, c.letter-7.ensures, c.letter-6.ensures, c.letter-5.ensures, c.letter-4.ensures, c.letter-3.ensures, c.letter-2.ensures, c.letter.ensures)
