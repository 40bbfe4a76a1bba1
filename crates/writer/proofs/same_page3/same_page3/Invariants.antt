-- `writer::same_page3::same_page3` meets its contract. The loop's invariant, `Turning3`: the lines that are left and the end come to the page.
-- Assumes nothing.
use Rattle.writer.specs.Paging3.{layout_of}
use Rattle.writer.proofs.Page3Met.{Turning3}
use Rattle.writer.proofs.same_page3.same_page3.Given as goal

abbrev pub invariant-loop-row_end : goal.invariant-loop-row_end
invariant-loop-row_end l =
    Turning3 (layout_of l.layout) l.width l.changes l.ends l.src l.next l.from l.base l.row_end-index l.every l.left
