-- The invariant: the test of the rows that are left is that of all. Assumes nothing.
use mathlib.Core.Path.{refl, ◌∙◌}
use Prim.Native.Nat.{◌-◌}
use native.Mathlib.Omega.{arith}
use Rattle.heads.specs.Steps.{clean_rows}
use Rattle.heads.proofs.Marks.{under-below, under-past, under-bad, under_next}
use Rattle.heads.proofs.boxes.clean_rows.Goals as goal

pub loop-y-init : goal.loop-y-init
unfolding clean_rows
loop-y-init c = refl

pub returns-then-rows-y : goal.returns-then-rows-y
returns-then-rows-y c = under-below c.args.rows c.args.marks.now (c.args.bottom - c.loop-y.y) c.loop-y.y c.if-rows-y.true ∙ c.loop-y.invariant

pub bounds-marks-y : goal.bounds-marks-y
bounds-marks-y c = omega arith

pub returns-then-marks-y-ne0 : goal.returns-then-marks-y-ne0
returns-then-marks-y-ne0 c =
    under-bad c.args.rows c.args.marks.now c.loop-y.y c.args.bottom c.loop-y-test.true c.if-rows-y.false
    c.if-marks-y-ne0.true ∙ c.loop-y.invariant

pub loop-y-preserved : goal.loop-y-preserved
loop-y-preserved c =
    under_next c.args.rows c.args.marks.now c.loop-y.y c.args.bottom c.loop-y-test.true c.if-rows-y.false
    c.if-marks-y-ne0.false ∙ c.loop-y.invariant

pub returns : goal.returns
returns c =
    under-past c.args.rows c.args.marks.now c.loop-y.y c.args.bottom c.loop-y-test.false ∙ c.loop-y.invariant
