-- `writer::line::alike` meets its contract. The invariant is what it ensures, of those that were seen. Assumes nothing.
use Rattle.writer.specs.Coding.{Alike}
use Rattle.writer.proofs.line.alike.Given as goal

abbrev pub invariant-loop-k : goal.invariant-loop-k
invariant-loop-k l = Alike l.reference l.above l.row l.place l.k
