use mathlib.Core.Path.{refl}
use Rattle.swift_units.proofs.Counting.{counted_none, left_of, spent-other, spent-less, spent-on}
use Rattle.swift_loops.proofs.Swiftly.{kept-long, walked-base, walked_low, walked-asks}
use native.Mathlib.Omega.{arith}
use Rattle.swift_units.proofs.codes.Goals as goal

-- src/lib.rt:308:9
pub returns-then-src-lt8 : goal.returns-then-src-lt8
returns-then-src-lt8 c = left_of c.args.src.now c.args.start 0 c.args.units c.args.units (counted_none c.requires.0) (omega arith) (λ e. refl)

-- src/lib.rt:312:5
pub loop-u-init : goal.loop-u-init
loop-u-init c = left_of c.args.src.now c.args.start 0 c.args.units c.args.units (counted_none c.requires.0) (omega arith) (λ e. refl)

-- src/lib.rt:315:13
pub shape_of-changes-then-last-s : goal.shape_of-changes-then-last-s
shape_of-changes-then-last-s c = c.loop-u.invariant.0.walked.size

-- src/lib.rt:315:13
pub returns-then-last-s : goal.returns-then-last-s
returns-then-last-s c = c.loop-u.invariant

-- src/lib.rt:317:39
pub offset_bounds-changes-start : goal.offset_bounds-changes-start
offset_bounds-changes-start c = omega (arith, c.requires.0.placed)

-- src/lib.rt:317:39
pub slice_bounds-change_or-count : goal.slice_bounds-change_or-count
slice_bounds-change_or-count c = omega (arith, c.requires.0.placed)

-- src/lib.rt:317:39
pub slice_bounds-change_or-start : goal.slice_bounds-change_or-start
slice_bounds-change_or-start c = omega (arith, c.requires.0.placed)

-- src/lib.rt:317:39
pub slice_bounds-change_or-end : goal.slice_bounds-change_or-end
slice_bounds-change_or-end c = walked-base c.requires.0 c.loop-u.invariant.0.walked

-- src/lib.rt:320:13
pub shape_of-changes-then-b1-s : goal.shape_of-changes-then-b1-s
shape_of-changes-then-b1-s c = c.loop-u.invariant.0.walked.size

-- src/lib.rt:320:13
pub returns-then-b1-s : goal.returns-then-b1-s
returns-then-b1-s c = c.loop-u.invariant

-- src/lib.rt:322:13
pub ahead-bits-requires : goal.ahead-bits-requires
ahead-bits-requires c = omega (arith, c.if-last-s.false, c.if-src-lt8.false)

-- src/lib.rt:323:15
pub code-requires : goal.code-requires
code-requires c = (walked-asks c.requires.0 c.loop-u.invariant.0.walked c.requires.1 c.change_or-b1.ensures c.if-b1-s.false (kept-long c.args.start c.args.base c.args.changes.now (omega arith)), walked_low c.requires.0 c.loop-u.invariant.0.walked, c.loop-u-test.true)

-- src/lib.rt:325:17
pub shape_of-changes-in_default : goal.shape_of-changes-in_default
shape_of-changes-in_default c = omega (arith, c.loop-u.invariant.0.walked.size, c.code.auto.changes)

-- src/lib.rt:325:17
pub returns-in_default : goal.returns-in_default
returns-in_default c = spent-other c.args.src.now c.args.start c.requires.0.placed c.loop-u.invariant _ _ (c.code.ensures c.args.src.now _ c.ahead-bits.ensures (omega arith)) c.in_default.is

-- src/lib.rt:312:5
pub loop-u-smaller : goal.loop-u-smaller
loop-u-smaller c = spent-less c.args.src.now c.args.start c.requires.0.placed c.loop-u.invariant _ c.code.new.changes (c.code.ensures c.args.src.now _ c.ahead-bits.ensures (omega arith)) c.in-Some.is

-- src/lib.rt:312:5
pub loop-u-preserved : goal.loop-u-preserved
loop-u-preserved c = spent-on c.args.src.now c.args.start c.requires.0.placed c.loop-u.invariant _ _ (c.code.ensures c.args.src.now _ c.ahead-bits.ensures (omega arith)) c.in-Some.is

-- src/lib.rt:291:1
pub shape_of-changes : goal.shape_of-changes
shape_of-changes c = c.loop-u.invariant.0.walked.size

-- src/lib.rt:291:1
pub returns : goal.returns
returns c = c.loop-u.invariant
