-- The invariant: codes have walked here. The measure is what is left of the data.
use native.Mathlib.Omega.{arith}
use Rattle.swift_loops.proofs.Swiftly.{kept-long, walks-none, walked-base, walked_low, walked-asks, took-other, took-on, took-less}
use Rattle.swift_loops.proofs.fast_2d.codes.Goals as goal

pub returns-then-src-lt8 : goal.returns-then-src-lt8
returns-then-src-lt8 c = walks-none c.requires.1

pub loop-s-init : goal.loop-s-init
loop-s-init c = walks-none c.requires.1

pub offset_bounds-changes-start : goal.offset_bounds-changes-start
offset_bounds-changes-start c =
    omega (arith, c.requires.1.placed)

pub slice_bounds-change_or-count : goal.slice_bounds-change_or-count
slice_bounds-change_or-count c = omega (arith, c.requires.1.placed)

pub slice_bounds-change_or-start : goal.slice_bounds-change_or-start
slice_bounds-change_or-start c = omega (arith, c.requires.1.placed)

pub slice_bounds-change_or-end : goal.slice_bounds-change_or-end
slice_bounds-change_or-end c =
    walked-base c.requires.1 c.loop-s.invariant

pub shape_of-changes-then-b1-s : goal.shape_of-changes-then-b1-s
shape_of-changes-then-b1-s c = c.loop-s.invariant.size

pub returns-then-b1-s : goal.returns-then-b1-s
returns-then-b1-s c = c.loop-s.invariant

pub ahead-bits-requires : goal.ahead-bits-requires
ahead-bits-requires c =
    omega (arith, c.loop-s-test.true, c.if-src-lt8.false)

pub code-requires : goal.code-requires
code-requires c =
    let inv = c.loop-s.invariant in (
      c.requires.0,
      walked-asks c.requires.1 inv c.requires.2 c.change_or-b1.ensures c.if-b1-s.false
          (kept-long c.args.start c.args.base c.args.changes.now (omega arith)),
      walked_low c.requires.1 inv,
    )

pub shape_of-changes-in_default : goal.shape_of-changes-in_default
shape_of-changes-in_default c =
    omega (arith, c.loop-s.invariant.size, c.code.auto.changes)

pub returns-in_default : goal.returns-in_default
returns-in_default c =
    let took = c.code.ensures c.args.src.now _ c.ahead-bits.ensures (omega arith) in
    took-other c.requires.1 c.loop-s.invariant _ _ took c.in_default.is

pub loop-s-smaller : goal.loop-s-smaller
loop-s-smaller c =
    let took = c.code.ensures c.args.src.now _ c.ahead-bits.ensures (omega arith) in
    took-less c.requires.1 c.loop-s.invariant _ c.code.new.changes took c.in-Some.is

pub loop-s-preserved : goal.loop-s-preserved
loop-s-preserved c =
    let took = c.code.ensures c.args.src.now _ c.ahead-bits.ensures (omega arith) in
    took-on c.requires.1 c.loop-s.invariant _ _ took c.in-Some.is

pub shape_of-changes : goal.shape_of-changes
shape_of-changes c = c.loop-s.invariant.size

pub returns : goal.returns
returns c = c.loop-s.invariant
