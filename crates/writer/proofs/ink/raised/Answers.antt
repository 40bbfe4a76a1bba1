-- `writer::ink::raised` meets its contract. Nothing is shifted out. Assumes nothing.
use Rattle.writer.proofs.Splicing.{raise}
use Rattle.writer.proofs.ink.raised.Goals as goal

pub returns : goal.returns
returns c = raise c.args.word c.args.size c.args.whole c.requires.0 c.requires.1 c.requires.2
