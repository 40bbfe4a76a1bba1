-- `writer::page3::put_page3` meets its contract. The loop's invariant, `Paging3`: the lines that are left and the end come to the page.
-- Assumes nothing.
use Rattle.writer.specs.Paging3.{layout_of}
use Rattle.writer.proofs.Page3Loop.{Paging3}
use Rattle.writer.proofs.page3.put_page3.Given as goal

abbrev pub invariant-loop-row_end : goal.invariant-loop-row_end
invariant-loop-row_end l =
    Paging3 (layout_of l.layout) l.write l.width l.changes l.ends l.initial.out l.next l.from l.base l.row_end-index l.left l.out
