-- `writer::ink::one` meets its contract. A byte is set. Assumes nothing.
use Rattle.writer.proofs.Splicing.{set-splices}
use Rattle.writer.proofs.ink.one.Goals as goal

pub returns : goal.returns
returns c = set-splices c.args.out.now c.args.i c.args.word c.requires.0
