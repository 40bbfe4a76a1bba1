-- `writer::mode::pass` meets its contract. By computation. Assumes nothing.
use Rattle.writer.proofs.ModeCodes.{pass-spells}
use Rattle.writer.proofs.mode.pass.Goals as goal

pub returns : goal.returns
returns c = pass-spells
