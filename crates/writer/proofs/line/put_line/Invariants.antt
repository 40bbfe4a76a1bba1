-- `writer::line::put_line` meets its contract. The loop's invariant, `Going`: the codes that are left come to the line, and `above` is b1's place.
-- It holds in a turn's middle too, behind the ones. What is left of the line falls. Assumes nothing.
use lib.ListN.{drop}
use Rattle.writer.proofs.LineLoop.{Going}
use Rattle.rules.proofs.Ahead.{left_over}
use Rattle.writer.proofs.line.put_line.Given as goal

abbrev pub invariant-loop-position : goal.invariant-loop-position
invariant-loop-position l =
    Going l.write l.width l.reference l.row l.at l.initial.out l.next l.position l.place l.above l.out

abbrev pub decreases-loop-position : goal.decreases-loop-position
decreases-loop-position l =
    left_over l.width l.position (drop l.place l.row)
