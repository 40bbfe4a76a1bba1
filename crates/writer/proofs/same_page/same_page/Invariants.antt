-- `writer::same_page::same_page` meets its contract. The loop's invariant, `Turning`: the rows that are left and EOFB come to the page.
-- Assumes nothing.
use Rattle.writer.proofs.CodesMet.{Turning}
use Rattle.writer.proofs.same_page.same_page.Given as goal

abbrev pub invariant-loop-row_end : goal.invariant-loop-row_end
invariant-loop-row_end l =
    Turning l.width l.changes l.ends l.src l.next l.from l.base l.row_end-index
