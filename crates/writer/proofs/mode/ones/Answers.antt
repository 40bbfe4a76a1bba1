-- `writer::mode::ones` meets its contract. Assumes nothing.
use Rattle.writer.proofs.ModeCodes.{ones-some, ones-spell}
use Rattle.writer.proofs.mode.ones.Goals as goal

pub overflow_sub-result : goal.overflow_sub-result
overflow_sub-result c = ones-some c.args.k c.requires.1

pub returns : goal.returns
returns c = ones-spell c.args.k c.requires.0 c.requires.1
