-- `writer::layout::of_1d` meets its contract. Assumes nothing.
use Rattle.writer.proofs.layout.of_1d.Goals as goal

pub returns-then-eols : goal.returns-then-eols
returns-then-eols c = rw c.if-eols.true

pub returns : goal.returns
returns c = rw c.if-eols.false
