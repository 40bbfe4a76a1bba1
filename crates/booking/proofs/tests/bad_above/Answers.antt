-- The invariant: the first of the rows that are left is that of all. Assumes nothing.
use mathlib.Core.Path.{◌∙◌}
use native.Mathlib.Omega.{arith}
use lib.ListN.{length}
use Rattle.booking.specs.Testing.{unclean_above}
use Rattle.booking.proofs.Firsts.{first-start, first-here, first_next}
use Rattle.booking.proofs.Unclean.{above-unclean, above_clean, above-none, above-past}
use Rattle.booking.proofs.tests.bad_above.Goals as goal

pub loop-y-init : goal.loop-y-init
loop-y-init c = (omega arith, first-start _ _)

pub returns-then-low-y : goal.returns-then-low-y
returns-then-low-y c =
    let a = c.args in
    above-none a.marks.now a.low c.loop-y.y c.if-low-y.true c.loop-y.invariant.0 ∙ c.loop-y.invariant.1

pub bounds-marks-y : goal.bounds-marks-y
bounds-marks-y c = omega arith

pub returns-then-marks-y-ne0 : goal.returns-then-marks-y-ne0
returns-then-marks-y-ne0 c =
    let a = c.args in
    first-here (unclean_above a.marks.now a.low) c.loop-y.y (length a.marks.now) c.loop-y-test.true
    (above-unclean a.marks.now a.low c.loop-y.y c.if-low-y.false c.if-marks-y-ne0.true) ∙ c.loop-y.invariant.1

pub loop-y-preserved : goal.loop-y-preserved
loop-y-preserved c =
    let a = c.args in (
      omega arith,
      first_next (unclean_above a.marks.now a.low) c.loop-y.y (length a.marks.now) c.loop-y-test.true
          (above_clean a.marks.now a.low c.loop-y.y c.if-marks-y-ne0.false) ∙ c.loop-y.invariant.1,
    )

pub returns : goal.returns
returns c =
    let a = c.args in
    above-past a.marks.now a.low c.loop-y.y c.loop-y-test.false c.loop-y.invariant.0 ∙ c.loop-y.invariant.1
