-- `writer::line1::put_line1` meets its contract. The loop's invariant, `Going1`: the runs that are left come to the line.
-- Assumes nothing.
use Rattle.writer.proofs.Line1Loop.{Going1}
use Rattle.writer.proofs.line1.put_line1.Given as goal

abbrev pub invariant-loop-change : goal.invariant-loop-change
invariant-loop-change l =
    Going1 l.write l.width l.row l.at l.initial.out l.next l.position l.colour l.change-index l.out
