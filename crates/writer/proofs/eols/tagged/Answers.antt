-- `writer::eols::tagged` meets its contract. By computation. Assumes nothing.
use Rattle.writer.proofs.EolCodes.{tag_one, tag-two}
use Rattle.writer.proofs.eols.tagged.Goals as goal

pub returns-then-one : goal.returns-then-one
returns-then-one c = rw c.if-one.true tag_one

pub returns : goal.returns
returns c = rw c.if-one.false tag-two
