-- The invariant: codes have walked here. The measure is what is left of the data.
use native.Mathlib.Omega.{arith}
use Rattle.swift_loops.proofs.Swiftly.{walks-none, walked_low, walked-asks, took-other, took-on, took-less}
use Rattle.swift_loops.proofs.lent_2d.codes.Goals as goal

pub returns-then-src-lt8 : goal.returns-then-src-lt8
returns-then-src-lt8 c = walks-none c.requires.0

pub loop-s-init : goal.loop-s-init
loop-s-init c = walks-none c.requires.0

pub shape_of-row-then-b1-s : goal.shape_of-row-then-b1-s
shape_of-row-then-b1-s c = c.loop-s.invariant.size

pub returns-then-b1-s : goal.returns-then-b1-s
returns-then-b1-s c = c.loop-s.invariant

pub ahead-bits-requires : goal.ahead-bits-requires
ahead-bits-requires c = omega (arith, c.loop-s-test.true, c.if-src-lt8.false)

pub code-requires : goal.code-requires
code-requires c =
    let asks = c.requires in
    let inv = c.loop-s.invariant in
    (walked-asks asks.0 inv asks.1 c.change_or-b1.ensures c.if-b1-s.false (omega arith), walked_low asks.0 inv)

pub shape_of-row-in_default : goal.shape_of-row-in_default
shape_of-row-in_default c =
    omega (arith, c.loop-s.invariant.size, c.code.auto.row)

pub returns-in_default : goal.returns-in_default
returns-in_default c =
    let took = c.code.ensures c.args.src.now _ c.ahead-bits.ensures (omega arith) in
    took-other c.requires.0 c.loop-s.invariant _ _ took c.in_default.is

pub loop-s-smaller : goal.loop-s-smaller
loop-s-smaller c =
    let took = c.code.ensures c.args.src.now _ c.ahead-bits.ensures (omega arith) in
    took-less c.requires.0 c.loop-s.invariant _ c.code.new.row took c.in-Some.is

pub loop-s-preserved : goal.loop-s-preserved
loop-s-preserved c =
    let took = c.code.ensures c.args.src.now _ c.ahead-bits.ensures (omega arith) in
    took-on c.requires.0 c.loop-s.invariant _ _ took c.in-Some.is

pub shape_of-row : goal.shape_of-row
shape_of-row c = c.loop-s.invariant.size

pub returns : goal.returns
returns c = c.loop-s.invariant
