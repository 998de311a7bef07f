use Rattle.compiler.proofs.SecondPass.{command_stored}
use Rattle.compiler_pass.proofs.put_command.Goals as goal

pub returns : goal.returns
returns c = command_stored c.args.s c.args.c c.args.at c.args.buffer.now c.args.words.now _ c.blit_values-values.ensures c.put_records.ensures c.put_words.ensures
