use Rattle.command.specs.Command.{command_of}
use Rattle.command_code.proofs.Rows.{padded}
use Rattle.command_code.proofs.command_of.Goals as goal

pub returns : goal.returns
unfolding command_of
returns c = simp (c.u32_at.ensures, c.u16_at-8.ensures, c.u16_at-7.ensures, c.u16_at-6.ensures, c.u16_at-5.ensures, c.u16_at-4.ensures, c.u16_at-3.ensures, c.u16_at-2.ensures, c.u16_at.ensures, c.in_long_form-whole.ensures, padded)
