-- `listing_text::lines::put_rows` meets its contract. The invariant: the rows from `k` on are left. Assumes nothing.
use Rattle.listing_text.proofs.Rowing.{no_row, end-rises, row_room, row_put, rows-put}
use native.Mathlib.Omega.{arith}
use Rattle.listing_text.proofs.lines.put_rows.Goals as goal

pub loop-k-init : goal.loop-k-init
loop-k-init c = no_row c.requires

pub offset_bounds-ends-k : goal.offset_bounds-ends-k
offset_bounds-ends-k c = omega arith

pub bounds-ends-k : goal.bounds-ends-k
bounds-ends-k c = omega arith

pub overflow_add-number : goal.overflow_add-number
overflow_add-number c = omega arith

pub bounds-marks-k : goal.bounds-marks-k
bounds-marks-k c = omega (arith, c.loop-k.invariant.marked)

pub offset_bounds-changes-base : goal.offset_bounds-changes-base
offset_bounds-changes-base c = omega (arith, c.loop-k.invariant.within)

pub slice_bounds-put_row-count : goal.slice_bounds-put_row-count
slice_bounds-put_row-count c = (end-rises c.loop-k.invariant c.loop-k-test.true).low

pub slice_bounds-put_row-start : goal.slice_bounds-put_row-start
slice_bounds-put_row-start c = omega (arith, (end-rises c.loop-k.invariant c.loop-k-test.true).low)

pub slice_bounds-put_row-end : goal.slice_bounds-put_row-end
slice_bounds-put_row-end c = omega (arith, (end-rises c.loop-k.invariant c.loop-k-test.true).high)

pub put_row-p-requires : goal.put_row-p-requires
put_row-p-requires c = row_room c.loop-k.invariant c.loop-k-test.true

pub loop-k-preserved : goal.loop-k-preserved
loop-k-preserved c = row_put c.loop-k.invariant c.loop-k-test.true c.put_row-p.ensures

pub shape_of-out : goal.shape_of-out
shape_of-out c = c.loop-k.invariant.owes.size

pub returns : goal.returns
returns c = rows-put c.loop-k.invariant c.loop-k-test.false
