-- `writer::page3::put_page3` meets its contract. The loop's invariant, `Paging3`: the lines that are left and the end come to the page.
-- Assumes nothing.
use mathlib.Core.Path.{refl}
use native.Mathlib.Omega.{arith}
use Rattle.writer.specs.Paging3.{layout_of}
use Rattle.writer.proofs.AtRows.{tested}
use Rattle.writer.proofs.Page3Loop.{begin3, row_room, row-over, row_next, end-room, ended}
use Rattle.writer.proofs.page3.put_page3.Goals as goal

pub loop-row_end-init : goal.loop-row_end-init
loop-row_end-init c =
    let a = c.args in
    begin3 (layout_of a.layout) _ _ _ c.requires.2

pub offset_bounds-changes-from : goal.offset_bounds-changes-from
offset_bounds-changes-from c = omega arith

pub slice_bounds-above-count : goal.slice_bounds-above-count
slice_bounds-above-count c = c.loop-row_end.invariant.rows.order

pub slice_bounds-above-start : goal.slice_bounds-above-start
slice_bounds-above-start c = omega (arith, c.loop-row_end.invariant.rows.order, c.loop-row_end.invariant.rows.within)

pub slice_bounds-above-end : goal.slice_bounds-above-end
slice_bounds-above-end c = omega (arith, c.loop-row_end.invariant.rows.order, c.loop-row_end.invariant.rows.within)

pub offset_bounds-changes-base : goal.offset_bounds-changes-base
offset_bounds-changes-base c = omega (arith, c.loop-row_end.invariant.rows.within)

pub slice_bounds-row-count : goal.slice_bounds-row-count
slice_bounds-row-count c =
    let t = tested c.loop-row_end.invariant.rows c.loop-row_end-test.true in
    t.low

pub slice_bounds-row-start : goal.slice_bounds-row-start
slice_bounds-row-start c =
    let t = tested c.loop-row_end.invariant.rows c.loop-row_end-test.true in
    omega (arith, t.low, t.high)

pub slice_bounds-row-end : goal.slice_bounds-row-end
slice_bounds-row-end c =
    let t = tested c.loop-row_end.invariant.rows c.loop-row_end-test.true in
    omega (arith, t.low, t.high)

pub put_row-next-requires : goal.put_row-next-requires
put_row-next-requires c =
    let a = c.args in
    let l = c.loop-row_end in
    (c.requires.0, row_room (layout_of a.layout) c.requires.1 l.left l.invariant c.requires.2 c.loop-row_end-test.true _ refl, l.invariant.zeros)

pub returns-then-out-next : goal.returns-then-out-next
returns-then-out-next c =
    let a = c.args in
    let l = c.loop-row_end in
    row-over (layout_of a.layout) c.requires.1 l.left l.invariant c.requires.2 c.loop-row_end-test.true _ refl c.put_row-next.ensures c.if-out-next.true

pub next_left-left-requires : goal.next_left-left-requires
next_left-left-requires c =
    c.requires.1

pub loop-row_end-preserved : goal.loop-row_end-preserved
loop-row_end-preserved c =
    let a = c.args in
    let l = c.loop-row_end in
    row_next (layout_of a.layout) c.requires.1 l.left l.invariant c.requires.2 c.loop-row_end-test.true _ refl c.put_row-next.ensures c.if-out-next.false _ c.next_left-left.ensures

pub put_end-requires : goal.put_end-requires
put_end-requires c =
    let a = c.args in
    let l = c.loop-row_end in
    (l.invariant.zeros, end-room (layout_of a.layout) c.requires.1 l.left l.invariant c.requires.2 c.loop-row_end-test.false)

pub returns : goal.returns
returns c =
    let a = c.args in
    let l = c.loop-row_end in
    ended (layout_of a.layout) c.requires.1 l.left l.invariant c.requires.2 c.loop-row_end-test.false c.put_end.ensures
