-- `writer::same_line1::same_line1` meets its contract. The loop's invariant, `Tracing1`: the runs that are left come to the line. Assumes nothing.
use Rattle.writer.proofs.CodesMet3.{Tracing1}
use Rattle.writer.proofs.same_line1.same_line1.Given as goal

abbrev pub invariant-loop-change : goal.invariant-loop-change
invariant-loop-change l =
    Tracing1 l.width l.row l.src l.at l.next l.position l.colour l.change-index
