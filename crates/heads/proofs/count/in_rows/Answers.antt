-- `heads::count::in_rows` meets its contract. The invariant: what is counted, and the black pixels of the rows that are left, are all of them. Assumes nothing.
use Prim.Native.Nat.{◌≤◌}
use native.Mathlib.Omega.{arith}
use lib.ListN.{length}
use Rattle.rules.specs.Write.{rows_in}
use Rattle.rules.specs.Codes.{white}
use Rattle.heads.specs.Steps.{black_rows}
use Rattle.heads.proofs.Runs.{black-few}
use Rattle.heads.proofs.RowsAt.{row-counted, row_at, rows-length}
use Rattle.heads.proofs.Pixelled.{rows-below, rows-past, rows_next}
use Rattle.heads.proofs.count.in_rows.Goals as goal

pub loop-y-init : goal.loop-y-init
unfolding black_rows
loop-y-init c = (omega arith, omega arith, omega arith)

pub returns-then-ends-y : goal.returns-then-ends-y
returns-then-ends-y c =
    let a = c.args in
    let h : length (rows_in 0 a.changes.now a.ends.now) ≤ c.loop-y.y = omega (arith, rows-length 0 a.changes.now a.ends.now, c.if-ends-y.true) in
    rows-below (rows_in 0 a.changes.now a.ends.now) a.left a.right c.loop-y.count c.loop-y.y a.bottom c.loop-y.invariant.2 h

pub end_after-base-requires : goal.end_after-base-requires
end_after-base-requires c = omega arith

pub overflow_add-y : goal.overflow_add-y
overflow_add-y c = omega arith

pub end_after-end-requires : goal.end_after-end-requires
end_after-end-requires c = omega arith

pub offset_bounds-changes-base : goal.offset_bounds-changes-base
offset_bounds-changes-base c =
    let r = row_at c.args.columns c.args.changes.now c.args.ends.now c.loop-y.y c.if-ends-y.false c.requires.0 in
    omega (arith, r.low, r.high, c.end_after-base.ensures)

pub slice_bounds-in_row-count : goal.slice_bounds-in_row-count
slice_bounds-in_row-count c =
    let r = row_at c.args.columns c.args.changes.now c.args.ends.now c.loop-y.y c.if-ends-y.false c.requires.0 in
    omega (arith, r.low, c.end_after-base.ensures, c.end_after-end.ensures)

pub slice_bounds-in_row-start : goal.slice_bounds-in_row-start
slice_bounds-in_row-start c =
    let r = row_at c.args.columns c.args.changes.now c.args.ends.now c.loop-y.y c.if-ends-y.false c.requires.0 in
    omega (arith, r.low, c.end_after-base.ensures, c.end_after-end.ensures)

pub slice_bounds-in_row-end : goal.slice_bounds-in_row-end
slice_bounds-in_row-end c =
    let r = row_at c.args.columns c.args.changes.now c.args.ends.now c.loop-y.y c.if-ends-y.false c.requires.0 in
    omega (arith, r.high, c.end_after-end.ensures)

pub in_row-requires : goal.in_row-requires
in_row-requires c = c.requires.1

pub overflow_add-count : goal.overflow_add-count
overflow_add-count c =
    let few = black-few white _ c.args.left c.args.right c.in_row.ensures in
    omega (arith, c.loop-y.invariant.0, c.loop-y.invariant.1, c.ranges.right, c.ranges.bottom, c.loop-y-test.true)

pub loop-y-preserved : goal.loop-y-preserved
loop-y-preserved c =
    let few = black-few white _ c.args.left c.args.right c.in_row.ensures in
    let r = row_at c.args.columns c.args.changes.now c.args.ends.now c.loop-y.y c.if-ends-y.false c.requires.0 in (
      omega (arith, c.loop-y.invariant.0),
      omega (arith, c.loop-y.invariant.0, c.loop-y.invariant.1, c.ranges.right),
      rw c.from-count.ensures
          (rows_next (rows_in 0 c.args.changes.now c.args.ends.now) c.args.left c.args.right c.loop-y.count c.loop-y.y c.args.bottom c.loop-y.invariant.2
          c.loop-y-test.true
          (row-counted white c.args.changes.now c.end_after-base.result c.end_after-end.result c.args.left c.args.right r
          c.end_after-base.ensures c.end_after-end.ensures c.in_row.ensures)),
    )

pub returns : goal.returns
returns c =
    let a = c.args in
    rows-past (rows_in 0 a.changes.now a.ends.now) a.left a.right c.loop-y.count c.loop-y.y a.bottom c.loop-y.invariant.2 c.loop-y-test.false
