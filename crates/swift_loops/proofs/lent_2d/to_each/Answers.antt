-- The invariant is `Along`, which a one takes a code further. The measure is what is left of the reference.
use mathlib.Core.Path.{refl}
use native.Mathlib.Omega.{arith}
use Rattle.swift_loops.proofs.StraightLoop.{along-new, along-went, along-low, along-room, along-on}
use Rattle.swift_loops.proofs.Swiftly.{stored-whole}
use Rattle.swift_loops.proofs.lent_2d.to_each.Goals as goal

pub loop-rest-init : goal.loop-rest-init
loop-rest-init c = along-new c.requires.0 _

pub shape_of-row-then-end-place : goal.shape_of-row-then-end-place
shape_of-row-then-end-place c = c.loop-rest.invariant.size

pub returns-then-end-place : goal.returns-then-end-place
returns-then-end-place c = along-went c.requires.0 c.loop-rest.invariant

pub offset_bounds-row-last : goal.offset_bounds-row-last
offset_bounds-row-last c =
    omega (arith, along-room c.requires.0 c.loop-rest.invariant (omega (arith, c.if-end-place.false)), c.loop-rest.invariant.size)

pub bounds-row-last : goal.bounds-row-last
bounds-row-last c = along-room c.requires.0 c.loop-rest.invariant (omega (arith, c.if-end-place.false))

pub offset_bounds-reference-place : goal.offset_bounds-reference-place
offset_bounds-reference-place c = omega (arith, c.if-end-place.false, c.requires.0.long)

pub bounds-reference-place : goal.bounds-reference-place
bounds-reference-place c = omega (arith, c.if-end-place.false)

pub overflow_add-s : goal.overflow_add-s
overflow_add-s c =
    omega (arith, along-low c.requires.0 c.loop-rest.invariant (omega (arith, c.if-end-place.false)) c.requires.1)

pub overflow_add-s-in-loop-rest : goal.overflow_add-s-in-loop-rest
overflow_add-s-in-loop-rest c =
    omega (arith, along-room c.requires.0 c.loop-rest.invariant (omega (arith, c.if-end-place.false)), c.loop-rest.invariant.size)

pub overflow_add-s-in-loop-rest-2 : goal.overflow_add-s-in-loop-rest-2
overflow_add-s-in-loop-rest-2 c = omega (arith, c.if-end-place.false, c.requires.0.long)

pub loop-rest-smaller : goal.loop-rest-smaller
loop-rest-smaller c = omega (arith, c.if-end-place.false)

pub loop-rest-preserved : goal.loop-rest-preserved
loop-rest-preserved c =
    along-on c.requires.0 c.loop-rest.invariant (omega (arith, c.if-end-place.false)) stored-whole refl c.loop-rest-test.true

pub shape_of-row : goal.shape_of-row
shape_of-row c = c.loop-rest.invariant.size

pub returns : goal.returns
returns c = along-went c.requires.0 c.loop-rest.invariant
