-- `writer::page::put_page` meets its contract. The loop's invariant, `Paging`: the rows that are left and EOFB come to the page.
-- Assumes nothing.
use Rattle.writer.proofs.PageLoop.{Paging}
use Rattle.writer.proofs.page.put_page.Given as goal

abbrev pub invariant-loop-row_end : goal.invariant-loop-row_end
invariant-loop-row_end l =
    Paging l.write l.width l.changes l.ends l.initial.out l.next l.from l.base l.row_end-index l.out
