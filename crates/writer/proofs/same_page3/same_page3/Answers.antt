-- `writer::same_page3::same_page3` meets its contract. The loop's invariant, `Turning3`: the lines that are left and the end come to the page.
-- Assumes nothing.
use mathlib.Core.Path.{refl}
use native.Mathlib.Omega.{arith}
use Rattle.writer.specs.Paging3.{layout_of}
use Rattle.writer.proofs.Leaving.{passed_on}
use Rattle.writer.proofs.AtRows.{tested}
use Rattle.writer.proofs.Page3Met.{turn3, lines-held, row-faces, row-parts, row_on, page3-met}
use Rattle.writer.proofs.same_page3.same_page3.Goals as goal

pub loop-row_end-init : goal.loop-row_end-init
loop-row_end-init c = rw c.every-every.ensures (turn3 (layout_of c.args.layout) c.args.width c.args.changes.now c.args.ends.now c.args.src.now c.requires.1)

pub offset_bounds-changes-from : goal.offset_bounds-changes-from
offset_bounds-changes-from c = omega arith

pub slice_bounds-above-count : goal.slice_bounds-above-count
slice_bounds-above-count c = c.loop-row_end.invariant.rows.order

pub slice_bounds-above-start : goal.slice_bounds-above-start
slice_bounds-above-start c = omega (arith, c.loop-row_end.invariant.rows.order, c.loop-row_end.invariant.rows.within)

pub slice_bounds-above-end : goal.slice_bounds-above-end
slice_bounds-above-end c = omega (arith, c.loop-row_end.invariant.rows.order, c.loop-row_end.invariant.rows.within)

pub offset_bounds-changes-base : goal.offset_bounds-changes-base
offset_bounds-changes-base c = omega (arith, c.loop-row_end.invariant.rows.within)

pub slice_bounds-row-count : goal.slice_bounds-row-count
slice_bounds-row-count c = (tested c.loop-row_end.invariant.rows c.loop-row_end-test.true).low

pub slice_bounds-row-start : goal.slice_bounds-row-start
slice_bounds-row-start c =
    let t = tested c.loop-row_end.invariant.rows c.loop-row_end-test.true in
    omega (arith, t.low, t.high)

pub slice_bounds-row-end : goal.slice_bounds-row-end
slice_bounds-row-end c =
    let t = tested c.loop-row_end.invariant.rows c.loop-row_end-test.true in
    omega (arith, t.low, t.high)

pub turn-turned-requires : goal.turn-turned-requires
turn-turned-requires c = (c.loop-row_end.invariant.left.loading, lines-held (layout_of c.args.layout) c.args.width c.args.changes.now c.args.ends.now c.args.src.now c.loop-row_end.invariant c.requires.1)

pub same_row-requires : goal.same_row-requires
same_row-requires c =
    (c.requires.0, row-faces (layout_of c.args.layout) c.args.width c.args.changes.now c.args.ends.now c.args.src.now c.loop-row_end.invariant c.requires.1 c.loop-row_end-test.true, c.loop-row_end.invariant.left.loading)

pub returns-in_err-next : goal.returns-in_err-next
returns-in_err-next c = passed_on _ c.from_residual.ensures.1 (row-parts (layout_of c.args.layout) c.args.width c.args.changes.now c.args.ends.now c.args.src.now c.loop-row_end.invariant c.requires.1 c.loop-row_end-test.true c.turn-turned.ensures c.in_err-next.ensures refl)

pub loop-row_end-preserved : goal.loop-row_end-preserved
loop-row_end-preserved c =
    row_on (layout_of c.args.layout) c.args.width c.args.changes.now c.args.ends.now c.args.src.now c.loop-row_end.invariant c.requires.1 c.loop-row_end-test.true c.turn-turned.ensures c.in_ok-next.ensures refl

pub same_end-requires : goal.same_end-requires
same_end-requires c = c.loop-row_end.invariant.left.loading

pub returns : goal.returns
returns c = page3-met (layout_of c.args.layout) c.args.width c.args.changes.now c.args.ends.now c.args.src.now c.loop-row_end.invariant c.requires.1 c.loop-row_end-test.false c.same_end.ensures
