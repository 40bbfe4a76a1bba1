-- `writer::same_line::same_line` meets its contract. The loop's invariant, `Tracing`: the codes that are left come to the line. What is left of the line falls.
-- Assumes nothing.
use lib.ListN.{drop}
use Rattle.rules.proofs.Ahead.{left_over}
use Rattle.writer.proofs.CodesMet.{Tracing}
use Rattle.writer.proofs.same_line.same_line.Given as goal

abbrev pub invariant-loop-position : goal.invariant-loop-position
invariant-loop-position l =
    Tracing l.width l.reference l.row l.src l.at l.next l.position l.colour l.place l.seen

abbrev pub decreases-loop-position : goal.decreases-loop-position
decreases-loop-position l =
    left_over l.width l.position (drop l.place l.row)
