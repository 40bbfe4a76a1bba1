-- `writer::eols::eol` meets its contract. By computation. Assumes nothing.
use Rattle.writer.proofs.ModeCodes.{eol-spells}
use Rattle.writer.proofs.eols.eol.Goals as goal

pub returns : goal.returns
returns c = eol-spells
