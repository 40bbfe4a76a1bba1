use Rattle.swift_units.proofs.Counting.{each-new, each-went, each_on}
use Rattle.swift_loops.proofs.StraightLoop.{along-low, kept-inside, kept-index, kept_next}
use native.Mathlib.Omega.{arith}
use Rattle.swift_units.proofs.to_each.Goals as goal

-- src/lib.rt:83:15
pub overflow_sub-end : goal.overflow_sub-end
overflow_sub-end c = omega (arith, c.requires.0.placed)

-- src/lib.rt:86:5
pub loop-rest-init : goal.loop-rest-init
loop-rest-init c = each-new c.requires.0 _ _ c.requires.2

-- src/lib.rt:89:13
pub shape_of-changes-then-end-place : goal.shape_of-changes-then-end-place
shape_of-changes-then-end-place c = c.loop-rest.invariant.along.size

-- src/lib.rt:89:13
pub returns-then-end-place : goal.returns-then-end-place
returns-then-end-place c = each-went c.requires.0 c.loop-rest.invariant

-- src/lib.rt:92:13
pub shape_of-changes-then-most-s : goal.shape_of-changes-then-most-s
shape_of-changes-then-most-s c = c.loop-rest.invariant.along.size

-- src/lib.rt:92:13
pub returns-then-most-s : goal.returns-then-most-s
returns-then-most-s c = each-went c.requires.0 c.loop-rest.invariant

-- src/lib.rt:94:20
pub overflow_add-last : goal.overflow_add-last
overflow_add-last c = omega (arith, kept-index c.requires.0 c.loop-rest.invariant.along (omega (arith, c.if-end-place.false)), c.loop-rest.invariant.along.size)

-- src/lib.rt:96:9
pub offset_bounds-changes-last : goal.offset_bounds-changes-last
offset_bounds-changes-last c = omega (arith, kept-index c.requires.0 c.loop-rest.invariant.along (omega (arith, c.if-end-place.false)), c.loop-rest.invariant.along.size)

-- src/lib.rt:96:9
pub bounds-changes-last : goal.bounds-changes-last
bounds-changes-last c = kept-index c.requires.0 c.loop-rest.invariant.along (omega (arith, c.if-end-place.false))

-- src/lib.rt:97:20
pub overflow_add-next : goal.overflow_add-next
overflow_add-next c = omega (arith, c.requires.0.placed, c.if-end-place.false)

-- src/lib.rt:98:18
pub offset_bounds-changes-next : goal.offset_bounds-changes-next
offset_bounds-changes-next c = omega (arith, c.requires.0.placed, c.if-end-place.false)

-- src/lib.rt:98:18
pub bounds-changes-next : goal.bounds-changes-next
bounds-changes-next c = kept_next c.requires.0 c.loop-rest.invariant.along (omega (arith, c.if-end-place.false)) _

-- src/lib.rt:100:17
pub overflow_add-s : goal.overflow_add-s
overflow_add-s c = omega (arith, along-low c.requires.0 c.loop-rest.invariant.along (kept-inside c.requires.0 c.loop-rest.invariant.along (omega (arith, c.if-end-place.false))) c.requires.1)

-- src/lib.rt:102:20
pub overflow_add-s-in-loop-rest : goal.overflow_add-s-in-loop-rest
overflow_add-s-in-loop-rest c = omega (arith, kept-index c.requires.0 c.loop-rest.invariant.along (omega (arith, c.if-end-place.false)), c.loop-rest.invariant.along.size)

-- src/lib.rt:103:20
pub overflow_add-s-in-loop-rest-2 : goal.overflow_add-s-in-loop-rest-2
overflow_add-s-in-loop-rest-2 c = omega (arith, c.requires.0.placed, c.if-end-place.false)

-- src/lib.rt:86:5
pub loop-rest-smaller : goal.loop-rest-smaller
loop-rest-smaller c = omega (arith, c.if-end-place.false)

-- src/lib.rt:86:5
pub loop-rest-preserved : goal.loop-rest-preserved
loop-rest-preserved c = each_on c.requires.0 c.loop-rest.invariant (omega (arith, c.if-end-place.false)) (omega (arith, c.if-most-s.false)) c.loop-rest-test.true

-- src/lib.rt:71:1
pub shape_of-changes : goal.shape_of-changes
shape_of-changes c = c.loop-rest.invariant.along.size

-- src/lib.rt:71:1
pub returns : goal.returns
returns c = each-went c.requires.0 c.loop-rest.invariant
