use Rattle.chip.proofs.Words.{word_fields}
use Rattle.chip_admit.proofs.is_word.Goals as goal

pub returns : goal.returns
returns c = word_fields c.args.r
