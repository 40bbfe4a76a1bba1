-- `writer::same_page::same_page` meets its contract. The loop's invariant, `Turning`: the rows that are left and EOFB come to the page.
-- Assumes nothing.
use mathlib.Core.Path.{refl}
use native.Mathlib.Omega.{arith}
use Rattle.writer.proofs.Leaving.{passed_on}
use Rattle.writer.proofs.AtRows.{tested}
use Rattle.writer.proofs.CodesMet.{turn, row-faces, row-parts, row_on, page-met}
use Rattle.writer.proofs.same_page.same_page.Goals as goal

pub loop-row_end-init : goal.loop-row_end-init
loop-row_end-init c = turn c.requires.1

pub offset_bounds-changes-from : goal.offset_bounds-changes-from
offset_bounds-changes-from c = omega arith

pub slice_bounds-above-count : goal.slice_bounds-above-count
slice_bounds-above-count c = c.loop-row_end.invariant.rows.order

pub slice_bounds-above-start : goal.slice_bounds-above-start
slice_bounds-above-start c = omega (arith, c.loop-row_end.invariant.rows.order, c.loop-row_end.invariant.rows.within)

pub slice_bounds-above-end : goal.slice_bounds-above-end
slice_bounds-above-end c = omega (arith, c.loop-row_end.invariant.rows.order, c.loop-row_end.invariant.rows.within)

pub offset_bounds-changes-base : goal.offset_bounds-changes-base
offset_bounds-changes-base c = omega (arith, c.loop-row_end.invariant.rows.within)

pub slice_bounds-row-count : goal.slice_bounds-row-count
slice_bounds-row-count c = (tested c.loop-row_end.invariant.rows c.loop-row_end-test.true).low

pub slice_bounds-row-start : goal.slice_bounds-row-start
slice_bounds-row-start c =
    let t = tested c.loop-row_end.invariant.rows c.loop-row_end-test.true in
    omega (arith, t.low, t.high)

pub slice_bounds-row-end : goal.slice_bounds-row-end
slice_bounds-row-end c =
    let t = tested c.loop-row_end.invariant.rows c.loop-row_end-test.true in
    omega (arith, t.low, t.high)

pub same_line-requires : goal.same_line-requires
same_line-requires c =
    let l = c.loop-row_end in
    (c.requires.0, row-faces l.invariant c.requires.1 c.loop-row_end-test.true, l.invariant.left.loading)

pub returns-in_err-next : goal.returns-in_err-next
returns-in_err-next c = passed_on _ c.from_residual.ensures.1 (row-parts c.loop-row_end.invariant c.requires.1 c.loop-row_end-test.true c.in_err-next.ensures refl)

pub loop-row_end-preserved : goal.loop-row_end-preserved
loop-row_end-preserved c =
    row_on c.loop-row_end.invariant c.requires.1 c.loop-row_end-test.true c.in_ok-next.ensures refl

pub same_eofb-requires : goal.same_eofb-requires
same_eofb-requires c = c.loop-row_end.invariant.left.loading

pub returns : goal.returns
returns c = page-met c.loop-row_end.invariant c.requires.1 c.loop-row_end-test.false c.same_eofb.ensures
