-- `writer::layout::k_allowed` meets its contract. Assumes nothing.
use borrow.Author.Tests.{le-leb, lt-leb}
use Rattle.writer.proofs.layout.k_allowed.Goals as goal

pub returns-then-k-ge1 : goal.returns-then-k-ge1
returns-then-k-ge1 c = rw (le-leb 1 c.args.k c.if-k-ge1.true)

pub returns-else-k-ge1 : goal.returns-else-k-ge1
returns-else-k-ge1 c = rw (lt-leb 1 c.args.k c.if-k-ge1.false)
