-- `writer::mode::horizontal` meets its contract. By computation. Assumes nothing.
use Rattle.writer.proofs.ModeCodes.{horizontal-spells}
use Rattle.writer.proofs.mode.horizontal.Goals as goal

pub returns : goal.returns
returns c = horizontal-spells
