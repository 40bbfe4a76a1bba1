-- `writer::page::put_page` meets its contract. The loop's invariant, `Paging`: the rows that are left and EOFB come to the page.
-- Assumes nothing.
use native.Mathlib.Omega.{arith}
use Rattle.writer.proofs.AtRows.{tested}
use Rattle.writer.proofs.PageLoop.{begin, row_room, row-over, row_next, eol-room, last-room, ended}
use Rattle.writer.proofs.page.put_page.Goals as goal

pub loop-row_end-init : goal.loop-row_end-init
loop-row_end-init c = begin _ c.requires.1

pub offset_bounds-changes-from : goal.offset_bounds-changes-from
offset_bounds-changes-from c = omega arith

pub slice_bounds-above-count : goal.slice_bounds-above-count
slice_bounds-above-count c = c.loop-row_end.invariant.rows.order

pub slice_bounds-above-start : goal.slice_bounds-above-start
slice_bounds-above-start c = omega (arith, c.loop-row_end.invariant.rows.order, c.loop-row_end.invariant.rows.within)

pub slice_bounds-above-end : goal.slice_bounds-above-end
slice_bounds-above-end c = omega (arith, c.loop-row_end.invariant.rows.order, c.loop-row_end.invariant.rows.within)

pub offset_bounds-changes-base : goal.offset_bounds-changes-base
offset_bounds-changes-base c = omega (arith, c.loop-row_end.invariant.rows.within)

pub slice_bounds-row-count : goal.slice_bounds-row-count
slice_bounds-row-count c =
    (tested c.loop-row_end.invariant.rows c.loop-row_end-test.true).low

pub slice_bounds-row-start : goal.slice_bounds-row-start
slice_bounds-row-start c =
    let t = tested c.loop-row_end.invariant.rows c.loop-row_end-test.true in
    omega (arith, t.low, t.high)

pub slice_bounds-row-end : goal.slice_bounds-row-end
slice_bounds-row-end c =
    let t = tested c.loop-row_end.invariant.rows c.loop-row_end-test.true in
    omega (arith, t.low, t.high)

pub put_line-next-requires : goal.put_line-next-requires
put_line-next-requires c =
    (c.requires.0, row_room c.loop-row_end.invariant c.requires.1 c.loop-row_end-test.true)

pub returns-then-out-next : goal.returns-then-out-next
returns-then-out-next c =
    row-over c.loop-row_end.invariant c.requires.1 c.loop-row_end-test.true c.put_line-next.ensures c.if-out-next.true

pub loop-row_end-preserved : goal.loop-row_end-preserved
loop-row_end-preserved c =
    row_next c.loop-row_end.invariant c.requires.1 c.loop-row_end-test.true c.put_line-next.ensures c.if-out-next.false

pub put-middle-requires : goal.put-middle-requires
put-middle-requires c =
    eol-room c.loop-row_end.invariant c.requires.1 c.loop-row_end-test.false c.eol.ensures

pub put-requires : goal.put-requires
put-requires c =
    last-room c.loop-row_end.invariant c.requires.1 c.loop-row_end-test.false c.eol.ensures c.put-middle.ensures c.eol-2.ensures

pub returns : goal.returns
returns c =
    ended c.loop-row_end.invariant c.requires.1 c.loop-row_end-test.false c.eol.ensures c.put-middle.ensures
    c.eol-2.ensures c.put.ensures
