-- What was closed first is the start, and before each unit the others led here. The measure is the units left of n. Assumes nothing.
use native.Mathlib.Omega.{arith}
use Rattle.by_unit.proofs.Taking.{running-new, running-asks, running-units, running-long, running-done, running-over, settling}
use Rattle.by_unit.proofs.take.take.Goals as goal

pub settle-out-requires : goal.settle-out-requires
settle-out-requires c =
    let p = c.requires in
    settling (p.asked, p.kept) (omega arith) c.args.stand 0 p.stand

pub loop-left-init : goal.loop-left-init
loop-left-init c = λ k s es ms from h. running-new from c.args.n _ _ _ h

pub overflow_sub-result : goal.overflow_sub-result
overflow_sub-result c = omega (arith, (c.loop-left.invariant c.args.kept c.args.stand c.args.ends.now c.args.marks.now c.requires c.settle-out.ensures).few)

pub shape_of-changes-in-Done : goal.shape_of-changes-in-Done
shape_of-changes-in-Done c = (running-long c.requires c.args.n (c.loop-left.invariant c.args.kept c.args.stand c.args.ends.now c.args.marks.now c.requires c.settle-out.ensures)).0

pub shape_of-ends-in-Done : goal.shape_of-ends-in-Done
shape_of-ends-in-Done c = (running-long c.requires c.args.n (c.loop-left.invariant c.args.kept c.args.stand c.args.ends.now c.args.marks.now c.requires c.settle-out.ensures)).1

pub shape_of-marks-in-Done : goal.shape_of-marks-in-Done
shape_of-marks-in-Done c = (running-long c.requires c.args.n (c.loop-left.invariant c.args.kept c.args.stand c.args.ends.now c.args.marks.now c.requires c.settle-out.ensures)).2

pub returns-in-Done : goal.returns-in-Done
returns-in-Done c = running-done c.requires c.args.n (c.loop-left.invariant c.args.kept c.args.stand c.args.ends.now c.args.marks.now c.requires c.settle-out.ensures) c.in-Done.is

pub units-taken-requires : goal.units-taken-requires
units-taken-requires c = (running-asks c.requires c.args.n (c.loop-left.invariant c.args.kept c.args.stand c.args.ends.now c.args.marks.now c.requires c.settle-out.ensures) c.in-More.is, c.loop-left-test.true)

pub overflow_sub-left : goal.overflow_sub-left
overflow_sub-left c = omega (arith, c.units-taken.ensures.few)

pub loop-left-smaller : goal.loop-left-smaller
loop-left-smaller c = omega (arith, c.units-taken.ensures.some, c.units-taken.ensures.few)

pub loop-left-preserved : goal.loop-left-preserved
loop-left-preserved c = λ k s es ms from h. running-units from c.args.n (c.loop-left.invariant k s es ms from h) c.in-More.is _ _ _ _ c.units-taken.ensures

pub overflow_sub-result-2 : goal.overflow_sub-result-2
overflow_sub-result-2 c = omega (arith, (c.loop-left.invariant c.args.kept c.args.stand c.args.ends.now c.args.marks.now c.requires c.settle-out.ensures).few)

pub shape_of-changes : goal.shape_of-changes
shape_of-changes c = (running-long c.requires c.args.n (c.loop-left.invariant c.args.kept c.args.stand c.args.ends.now c.args.marks.now c.requires c.settle-out.ensures)).0

pub shape_of-ends : goal.shape_of-ends
shape_of-ends c = (running-long c.requires c.args.n (c.loop-left.invariant c.args.kept c.args.stand c.args.ends.now c.args.marks.now c.requires c.settle-out.ensures)).1

pub shape_of-marks : goal.shape_of-marks
shape_of-marks c = (running-long c.requires c.args.n (c.loop-left.invariant c.args.kept c.args.stand c.args.ends.now c.args.marks.now c.requires c.settle-out.ensures)).2

pub returns : goal.returns
returns c = running-over c.requires c.args.n (c.loop-left.invariant c.args.kept c.args.stand c.args.ends.now c.args.marks.now c.requires c.settle-out.ensures) (omega arith)
