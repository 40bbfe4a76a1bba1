-- `writer::same_line::same_line` meets its contract. The loop's invariant, `Tracing`: the codes that are left come to the line. What is left of the line falls.
-- Assumes nothing.
use mathlib.Core.Path.{refl}
use Prim.Native.Nat.{◌+◌}
use native.Mathlib.Omega.{arith}
use Rattle.writer.proofs.AlongLine.{place-few, searches, a1-low, a2-low, passes, verticals, horizontals}
use Rattle.writer.proofs.Leaving.{meets-as, passed_on}
use Rattle.writer.proofs.CodesMet.{trace, traced, turn-parts, turn_on}
use Rattle.writer.proofs.same_line.same_line.Goals as goal

pub loop-position-init : goal.loop-position-init
loop-position-init c = trace c.requires.1 c.requires.2

pub find-found-requires : goal.find-found-requires
find-found-requires c = searches c.loop-position.invariant.along c.requires.1.rises (omega (arith, c.requires.1.narrow, c.loop-position-test.true))

pub meet-requires : goal.meet-requires
meet-requires c = (c.loop-position.invariant.left.loading, c.pass.ensures.sound)

pub returns-in_err-next : goal.returns-in_err-next
returns-in_err-next c =
    passed_on _ c.from_residual.ensures.1 (turn-parts c.loop-position.invariant c.loop-position.place (passes c.loop-position.invariant.along c.requires.1.rises c.loop-position-test.true c.find-found.ensures c.change_or-a1.ensures c.if-found-a1.true) (meets-as c.pass.ensures.bits c.in_err-next.ensures) refl)

pub loop-position-smaller-then-found-a1 : goal.loop-position-smaller-then-found-a1
loop-position-smaller-then-found-a1 c = (passes c.loop-position.invariant.along c.requires.1.rises c.loop-position-test.true c.find-found.ensures c.change_or-a1.ensures c.if-found-a1.true).less

pub loop-position-preserved-then-found-a1 : goal.loop-position-preserved-then-found-a1
loop-position-preserved-then-found-a1 c =
    turn_on c.loop-position.invariant _ (passes c.loop-position.invariant.along c.requires.1.rises c.loop-position-test.true c.find-found.ensures c.change_or-a1.ensures c.if-found-a1.true) (meets-as c.pass.ensures.bits c.in_ok-next.ensures) refl refl
    c.loop-position.invariant.along.coloured (omega arith) c.find-found.ensures.passed

pub vertical-requires : goal.vertical-requires
vertical-requires c = rw c.distance.ensures at c.if-distance-le3.true

pub meet-requires-then-distance-le3 : goal.meet-requires-then-distance-le3
meet-requires-then-distance-le3 c = (c.loop-position.invariant.left.loading, c.vertical.ensures.sound)

pub returns-in_err-next-2 : goal.returns-in_err-next-2
returns-in_err-next-2 c =
    let near = rw c.distance.ensures at c.if-distance-le3.true in
    passed_on _ c.from_residual-in_err-next-2.ensures.1 (turn-parts c.loop-position.invariant (c.loop-position.place + 1) (verticals c.loop-position.invariant.along c.requires.1.rises c.loop-position-test.true c.find-found.ensures c.change_or-a1.ensures c.if-found-a1.false near) (meets-as c.vertical.ensures.bits c.in_err-next-2.ensures) refl)

pub overflow_sub-colour : goal.overflow_sub-colour
overflow_sub-colour c = c.loop-position.invariant.along.coloured

pub overflow_add-place : goal.overflow_add-place
overflow_add-place c = omega (arith, place-few c.loop-position.invariant.along c.requires.1.narrow c.requires.1.rises')

pub loop-position-smaller-then-distance-le3 : goal.loop-position-smaller-then-distance-le3
loop-position-smaller-then-distance-le3 c =
    let near = rw c.distance.ensures at c.if-distance-le3.true in
    (verticals c.loop-position.invariant.along c.requires.1.rises c.loop-position-test.true c.find-found.ensures c.change_or-a1.ensures c.if-found-a1.false near).less

pub loop-position-preserved-then-distance-le3 : goal.loop-position-preserved-then-distance-le3
loop-position-preserved-then-distance-le3 c =
    let near = rw c.distance.ensures at c.if-distance-le3.true in
    turn_on c.loop-position.invariant _ (verticals c.loop-position.invariant.along c.requires.1.rises c.loop-position-test.true c.find-found.ensures c.change_or-a1.ensures c.if-found-a1.false near) (meets-as c.vertical.ensures.bits c.in_ok-next-2.ensures) refl refl
    (omega arith) (omega arith) c.find-found.ensures.passed

pub overflow_add-place-in-loop-position : goal.overflow_add-place-in-loop-position
overflow_add-place-in-loop-position c = omega (arith, place-few c.loop-position.invariant.along c.requires.1.narrow c.requires.1.rises')

pub overflow_sub-first : goal.overflow_sub-first
overflow_sub-first c = a1-low c.loop-position.invariant.along c.requires.1.rises c.loop-position-test.true c.find-found.ensures c.change_or-a1.ensures

pub overflow_sub-second : goal.overflow_sub-second
overflow_sub-second c =
    let far = rw c.distance.ensures at c.if-distance-le3.false in
    a2-low c.loop-position.invariant.along c.requires.1.rises c.loop-position-test.true c.find-found.ensures c.change_or-a1.ensures c.if-found-a1.false far c.change_or-a2.ensures

pub same_horizontal-requires : goal.same_horizontal-requires
same_horizontal-requires c = (c.requires.0, c.loop-position.invariant.along.coloured, c.loop-position.invariant.left.loading)

pub returns-in_err-next-3 : goal.returns-in_err-next-3
returns-in_err-next-3 c =
    let far = rw c.distance.ensures at c.if-distance-le3.false in
    passed_on _ c.from_residual-in_err-next-3.ensures.1 (turn-parts c.loop-position.invariant (c.loop-position.place + 2) (horizontals c.loop-position.invariant.along c.requires.1.rises c.loop-position-test.true c.find-found.ensures c.change_or-a1.ensures c.if-found-a1.false far c.change_or-a2.ensures) c.in_err-next-3.ensures refl)

pub overflow_add-place-in-loop-position-2 : goal.overflow_add-place-in-loop-position-2
overflow_add-place-in-loop-position-2 c = omega (arith, place-few c.loop-position.invariant.along c.requires.1.narrow c.requires.1.rises')

pub loop-position-smaller : goal.loop-position-smaller
loop-position-smaller c =
    let far = rw c.distance.ensures at c.if-distance-le3.false in
    (horizontals c.loop-position.invariant.along c.requires.1.rises c.loop-position-test.true c.find-found.ensures c.change_or-a1.ensures c.if-found-a1.false far c.change_or-a2.ensures).less

pub loop-position-preserved : goal.loop-position-preserved
loop-position-preserved c =
    let far = rw c.distance.ensures at c.if-distance-le3.false in
    turn_on c.loop-position.invariant (c.loop-position.place + 2) (horizontals c.loop-position.invariant.along c.requires.1.rises c.loop-position-test.true c.find-found.ensures c.change_or-a1.ensures c.if-found-a1.false far c.change_or-a2.ensures) c.in_ok-next-3.ensures refl refl
    c.loop-position.invariant.along.coloured (omega arith) c.find-found.ensures.passed

pub returns : goal.returns
returns c = traced c.loop-position.invariant c.loop-position-test.false
