-- The invariant: every change two places or more before the place lies at the position or left of it. The measure is what is left of the reference.
use mathlib.Core.Path.{refl}
use native.Mathlib.Omega.{arith}
use Rattle.context.proofs.Placing.{left-more}
use Rattle.swift_loops.proofs.fast_2d.onward.Goals as goal

pub loop-place-init : goal.loop-place-init
loop-place-init c = (c.requires.left, refl, omega arith)

pub offset_bounds-reference-place : goal.offset_bounds-reference-place
offset_bounds-reference-place c = omega arith

pub bounds-reference-place : goal.bounds-reference-place
bounds-reference-place c = omega arith

pub returns-then-position-reference : goal.returns-then-position-reference
returns-then-position-reference c =
    let inv = c.loop-place.invariant in
    record { seen = record { left = inv.0; right = λ h. omega (arith, c.if-position-reference.true) }; parity = inv.1; near = inv.2 }

pub overflow_add-place : goal.overflow_add-place
overflow_add-place c = omega arith

pub loop-place-smaller : goal.loop-place-smaller
loop-place-smaller c = omega arith

pub loop-place-preserved : goal.loop-place-preserved
loop-place-preserved c =
    let inv = c.loop-place.invariant in
    let test = c.loop-place-test.true in
    (left-more c.requires.rising inv.0 test (omega (arith, c.if-position-reference.false)), omega (arith, inv.1), omega (arith, test))

pub returns : goal.returns
returns c =
    let inv = c.loop-place.invariant in
    record { seen = record { left = inv.0; right = λ h. absurd (omega (arith, c.loop-place-test.false)) }; parity = inv.1; near = inv.2 }
