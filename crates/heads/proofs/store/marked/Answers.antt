-- The invariant: the test of the marks that are left is that of all. Assumes nothing.
use mathlib.Core.Bool.{true, false}
use mathlib.Core.Path.{refl, ◌∙◌}
use native.Mathlib.Omega.{arith}
use Rattle.heads.proofs.Marks.{marked-few, marked_all, marks-past, marks-bad, marks-next}
use Rattle.heads.proofs.store.marked.Goals as goal

pub returns-then-marks-rows : goal.returns-then-marks-rows
returns-then-marks-rows c = marked-few _ _ c.if-marks-rows.true

pub loop-k-init : goal.loop-k-init
loop-k-init c = refl

pub returns-then-marks-k-gt2 : goal.returns-then-marks-k-gt2
returns-then-marks-k-gt2 c =
    marked_all _ _ c.if-marks-rows.false false (marks-bad _ _ c.if-marks-rows.false c.loop-k.k (omega arith) c.if-marks-k-gt2.true ∙ c.loop-k.invariant)

pub loop-k-preserved : goal.loop-k-preserved
loop-k-preserved c =
    marks-next _ _ c.if-marks-rows.false c.loop-k.k (omega arith) c.if-marks-k-gt2.false ∙ c.loop-k.invariant

pub returns : goal.returns
returns c = marked_all _ _ c.if-marks-rows.false true (marks-past _ _ c.if-marks-rows.false c.loop-k.k c.loop-k-test.false ∙ c.loop-k.invariant)
