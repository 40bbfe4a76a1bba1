-- The invariant: what was noted, and the test of what is left, are the test of the whole row, below the width that every change of 32 bits
-- is below.
use mathlib.Core.Path.{sym, ap, ◌∙◌}
use Prim.Native.Nat.{ℕ, ◌+◌}
use native.Mathlib.Omega.{arith}
use Rattle.context.proofs.RowTest.{left_test, first-left, past-left, noted-left, next-left}
use Rattle.context.proofs.RowTest.{ascends_none, ascends-out, ascends-narrow}
use Rattle.context.proofs.reference.ascends.Goals.{then-row-place, else-row-place}
use Rattle.context.proofs.reference.ascends.Goals as goal

abbrev wide : ℕ
wide = 4294967296

pub returns-then-count-eq0 : goal.returns-then-count-eq0
returns-then-count-eq0 c = ascends_none _ _ c.if-count-eq0.true

pub returns-then-width-row : goal.returns-then-width-row
returns-then-width-row c = ascends-out _ _ (omega arith) c.if-width-row.true

pub loop-place-init : goal.loop-place-init
loop-place-init c =
    (omega arith, first-left wide c.args.row.now (omega arith) (omega (arith, c.type_inv.row 0)))

pub loop-place-preserved : goal.loop-place-preserved
loop-place-preserved c =
    let row = c.args.row.now in
    let i = c.loop-place.place in
    let inside = c.loop-place-test.true in (
      omega arith,
      elim c.if-row-place.branch [
        | then-row-place w ↦ ap (λ b. left_test wide row b (i + 1)) w.rising-is ∙ noted-left wide row c.loop-place.rising i inside w.if-row-place.true
        | else-row-place w ↦ ap (λ b. left_test wide row b (i + 1)) w.rising-is
            ∙ next-left wide row c.loop-place.rising i inside w.if-row-place.false (omega (arith, c.type_inv.row i))
      ] ∙ c.loop-place.invariant.1,
    )

pub returns : goal.returns
returns c =
    let row = c.args.row.now in
    sym (past-left wide row c.loop-place.rising c.loop-place.place c.loop-place-test.false)
    ∙ c.loop-place.invariant.1
    ∙ ascends-narrow c.args.width row (omega arith) wide (omega (arith, c.ranges.width)) c.if-width-row.false
