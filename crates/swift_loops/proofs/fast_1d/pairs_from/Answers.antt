-- What holds of the line at each turn: pairs took it there, and it is before a pair.
use Rattle.swift_loops.specs.declared.fast_1d.BeforePair.{BeforePair}
use Rattle.std.specs.Prelude.{Option}
use mathlib.Core.Path.{subst}
use native.Mathlib.Omega.{arith}
use Rattle.rules.proofs.Bits.{length-bits_of}
use Rattle.swift_loops.specs.Pairs.{PacedTo}
use Rattle.swift_loops.proofs.Running.{ran-none, ran_on}
use Rattle.swift_loops.proofs.fast_1d.pairs_from.Goals as goal

pub loop-s-init : goal.loop-s-init
loop-s-init c = (ran-none c.requires.0.paces.halts c.requires.0.paces.halts.held (omega (arith, c.requires.0.paces.inside, length-bits_of c.args.src.now)), c.requires.0.paces)

pub shape_of-row-then-last-s : goal.shape_of-row-then-last-s
shape_of-row-then-last-s c = c.loop-s.invariant.0.size

pub returns-then-last-s : goal.returns-then-last-s
returns-then-last-s c = c.loop-s.invariant.0

pub step-requires : goal.step-requires
step-requires c = (record { pacing = record { limit = c.requires.0.limit; last-is = c.requires.0.last-is; narrow = c.requires.0.narrow; paces = c.loop-s.invariant.1 }; here = omega (arith, c.if-last-s.false) }, c.requires.1, c.requires.2)

pub returns-in_default : goal.returns-in_default
returns-in_default c =
    let same = subst (λ (r : Option BeforePair). PacedTo c.args.src.now c.loop-s.row c.args.width c.loop-s.s r c.step.new.row) c.in_default.is c.step.ensures in
    rw same c.loop-s.invariant.0

pub loop-s-smaller : goal.loop-s-smaller
loop-s-smaller c =
    let took = subst (λ (r : Option BeforePair). PacedTo c.args.src.now c.loop-s.row c.args.width c.loop-s.s r c.step.new.row) c.in-Some.is c.step.ensures in
    omega (arith, took.2, took.1.halts.fits)

pub loop-s-preserved : goal.loop-s-preserved
loop-s-preserved c =
    let took = subst (λ (r : Option BeforePair). PacedTo c.args.src.now c.loop-s.row c.args.width c.loop-s.s r c.step.new.row) c.in-Some.is c.step.ensures in
    (ran_on c.loop-s.invariant.0 took.0, took.1)

pub shape_of-row : goal.shape_of-row
shape_of-row c = c.loop-s.invariant.0.size

pub returns : goal.returns
returns c = c.loop-s.invariant.0
