-- The invariant is `Along`, which a one takes a code further. The measure is what is left of the reference.
use native.Mathlib.Omega.{arith}
use Rattle.swift_loops.proofs.StraightLoop.{along-new, along-went, along-low, kept-inside, kept-index, kept_next, kept_on}
use Rattle.swift_loops.proofs.fast_2d.to_each.Goals as goal

pub overflow_sub-end : goal.overflow_sub-end
overflow_sub-end c = omega (arith, c.requires.0.placed)

pub loop-rest-init : goal.loop-rest-init
loop-rest-init c = along-new c.requires.0 _

pub shape_of-changes-then-end-place : goal.shape_of-changes-then-end-place
shape_of-changes-then-end-place c = c.loop-rest.invariant.size

pub returns-then-end-place : goal.returns-then-end-place
returns-then-end-place c = along-went c.requires.0 c.loop-rest.invariant

pub overflow_add-last : goal.overflow_add-last
overflow_add-last c =
    omega (
      arith,
      kept-index c.requires.0 c.loop-rest.invariant (omega (arith, c.if-end-place.false)),
      c.loop-rest.invariant.size,
    )

pub offset_bounds-changes-last : goal.offset_bounds-changes-last
offset_bounds-changes-last c =
    omega (
      arith,
      kept-index c.requires.0 c.loop-rest.invariant (omega (arith, c.if-end-place.false)),
      c.loop-rest.invariant.size,
    )

pub bounds-changes-last : goal.bounds-changes-last
bounds-changes-last c =
    kept-index c.requires.0 c.loop-rest.invariant (omega (arith, c.if-end-place.false))

pub overflow_add-next : goal.overflow_add-next
overflow_add-next c =
    omega (arith, c.requires.0.placed, c.if-end-place.false)

pub offset_bounds-changes-next : goal.offset_bounds-changes-next
offset_bounds-changes-next c =
    omega (arith, c.requires.0.placed, c.if-end-place.false)

pub bounds-changes-next : goal.bounds-changes-next
bounds-changes-next c =
    kept_next c.requires.0 c.loop-rest.invariant (omega (arith, c.if-end-place.false)) _

pub overflow_add-s : goal.overflow_add-s
overflow_add-s c =
    omega (
      arith,
      along-low c.requires.0 c.loop-rest.invariant (kept-inside c.requires.0 c.loop-rest.invariant (omega (arith, c.if-end-place.false)))
          c.requires.1,
    )

pub overflow_add-s-in-loop-rest : goal.overflow_add-s-in-loop-rest
overflow_add-s-in-loop-rest c =
    omega (
      arith,
      kept-index c.requires.0 c.loop-rest.invariant (omega (arith, c.if-end-place.false)),
      c.loop-rest.invariant.size,
    )

pub overflow_add-s-in-loop-rest-2 : goal.overflow_add-s-in-loop-rest-2
overflow_add-s-in-loop-rest-2 c =
    omega (arith, c.requires.0.placed, c.if-end-place.false)

pub loop-rest-smaller : goal.loop-rest-smaller
loop-rest-smaller c = omega (arith, c.if-end-place.false)

pub loop-rest-preserved : goal.loop-rest-preserved
loop-rest-preserved c =
    kept_on c.requires.0 c.loop-rest.invariant (omega (arith, c.if-end-place.false)) c.loop-rest-test.true

pub shape_of-changes : goal.shape_of-changes
shape_of-changes c = c.loop-rest.invariant.size

pub returns : goal.returns
returns c = along-went c.requires.0 c.loop-rest.invariant
