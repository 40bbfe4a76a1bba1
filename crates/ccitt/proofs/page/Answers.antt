-- `ccitt::page` meets its contract. The invariant: the machine stands where the arrays say, `expected` whether EOLs were behind one of its rows, and `places` is the shorter of the two. Assumes nothing.
use Rattle.ccitt.proofs.Paging.{turn-start, turn-asked, kept-paired, turn_stopped, turn-full, turn-marked, turn-behind, turn-next, turn-falls}
use native.Mathlib.Omega.{arith}
use Rattle.ccitt.proofs.page.Goals as goal

pub loop-number-init : goal.loop-number-init
loop-number-init c = (c.min-places.ensures, turn-start c.args.src.now c.args.settings c.args.changes.now c.args.ends.now c.args.marks.now c.requires.0)

pub row-requires : goal.row-requires
row-requires c = (turn-asked c.loop-number.invariant.1, kept-paired c.loop-number.state.reference c.requires.1 c.requires.2)

pub returns-in-Err : goal.returns-in-Err
returns-in-Err c = rw (c.told.ensures, c.counts-answer.ensures) (turn_stopped c.loop-number.invariant.1 c.row.ensures c.in-Err.is)

pub returns-then-places-rows : goal.returns-then-places-rows
returns-then-places-rows c = rw (c.told-then-places-rows.ensures, c.counts-full.ensures) (turn-full c.loop-number.invariant.1 c.row.ensures c.in-Ok.is (omega (arith, c.if-places-rows.true, c.loop-number.invariant.0)))

pub overflow_add-state : goal.overflow_add-state
overflow_add-state c = let h = turn-behind c.loop-number.invariant.1 c.row.ensures c.in-Ok.is (omega (arith, c.if-places-rows.false, c.loop-number.invariant.0)) in record { fits = omega (arith, h.few_entries) }

pub offset_bounds-ends-rows : goal.offset_bounds-ends-rows
offset_bounds-ends-rows c = let h = turn-behind c.loop-number.invariant.1 c.row.ensures c.in-Ok.is (omega (arith, c.if-places-rows.false, c.loop-number.invariant.0)) in record { fits = omega (arith, h.few_rows) }

pub bounds-ends-rows : goal.bounds-ends-rows
bounds-ends-rows c = omega (arith, c.if-places-rows.false, c.loop-number.invariant.0, c.loop-number.invariant.1.same_ends)

pub overflow_cast-marks : goal.overflow_cast-marks
overflow_cast-marks c = record { fits = omega (arith, turn-marked c.loop-number.invariant.1 c.row.ensures c.in-Ok.is) }

pub bounds-marks-rows : goal.bounds-marks-rows
bounds-marks-rows c = omega (arith, c.if-places-rows.false, c.loop-number.invariant.0, c.loop-number.invariant.1.same_marks)

pub behind-state-requires : goal.behind-state-requires
behind-state-requires c = turn-behind c.loop-number.invariant.1 c.row.ensures c.in-Ok.is (omega (arith, c.if-places-rows.false, c.loop-number.invariant.0))

pub loop-number-smaller : goal.loop-number-smaller
loop-number-smaller c = rw c.behind-state.ensures (turn-falls c.loop-number.invariant.1 c.row.ensures c.in-Ok.is (omega (arith, c.if-places-rows.false, c.loop-number.invariant.0)))

pub loop-number-preserved : goal.loop-number-preserved
loop-number-preserved c = (c.loop-number.invariant.0, rw (c.behind-state.ensures, c.row_end.ensures, c.ever-expected.ensures) (turn-next c.loop-number.invariant.1 c.row.ensures c.in-Ok.is (omega (arith, c.if-places-rows.false, c.loop-number.invariant.0)) c.changes-1.given))
