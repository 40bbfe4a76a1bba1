-- The invariant is `Reading`, and each way through a turn is a law of it. What falls is the bits left.
use native.Mathlib.Omega.{arith}
use Rattle.one_line.proofs.LineLoop.{passed-up, reading-new, reading-length, reading-done, reading-seeks, reading-codes, reading-stop, reading-less, reading-on, reading-room, reading-back}
use Rattle.one_line.proofs.line_2d.line_by_codes.Goals as goal

pub loop-line-init : goal.loop-line-init
loop-line-init c =
    rw c.new_line-line.ensures (reading-new c.requires)

pub find-found-requires : goal.find-found-requires
find-found-requires c =
    reading-seeks c.loop-line.invariant c.loop-line-test.true

pub offset_bounds-changes-base : goal.offset_bounds-changes-base
offset_bounds-changes-base c =
    omega (arith, reading-length c.loop-line.invariant, reading-room c.loop-line.invariant)

pub slice_bounds-code_2d-count : goal.slice_bounds-code_2d-count
slice_bounds-code_2d-count c =
    reading-room c.loop-line.invariant

pub slice_bounds-code_2d-start : goal.slice_bounds-code_2d-start
slice_bounds-code_2d-start c =
    reading-room c.loop-line.invariant

pub code_2d-requires : goal.code_2d-requires
code_2d-requires c = reading-codes c.loop-line.invariant c.loop-line-test.true c.find-found.ensures

pub shape_of-changes-in_err-line : goal.shape_of-changes-in_err-line
shape_of-changes-in_err-line c =
    reading-back c.loop-line.invariant c.code_2d.new.changes c.code_2d.auto.changes

pub returns-in_err-line : goal.returns-in_err-line
returns-in_err-line c =
    rw (passed-up _ _ c.from_residual.ensures.1)
    (reading-stop c.loop-line.invariant c.loop-line-test.true c.find-found.ensures _ _ c.code_2d.ensures c.in_err-line.was)

pub loop-line-smaller : goal.loop-line-smaller
loop-line-smaller c = omega (arith, reading-less c.loop-line.invariant c.loop-line-test.true c.find-found.ensures _ _ c.code_2d.ensures c.in_ok-line.was)

pub loop-line-preserved : goal.loop-line-preserved
loop-line-preserved c = reading-on c.loop-line.invariant c.loop-line-test.true c.find-found.ensures _ _ c.code_2d.ensures c.in_ok-line.was

pub shape_of-changes : goal.shape_of-changes
shape_of-changes c =
    reading-length c.loop-line.invariant

pub returns : goal.returns
returns c =
    reading-done c.loop-line.invariant c.loop-line-test.false
