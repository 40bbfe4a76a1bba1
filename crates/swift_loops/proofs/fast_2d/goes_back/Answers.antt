-- The change before b1 lies a pixel left of it at least.
use native.Mathlib.Omega.{arith}
use Rattle.context.proofs.Placing.{back_none, back-first, back-test}
use Rattle.swift_loops.proofs.fast_2d.goes_back.Goals as goal

pub returns-then-d-lt2 : goal.returns-then-d-lt2
returns-then-d-lt2 c = back_none c.requires c.if-d-lt2.true

pub returns-then-place-eq0 : goal.returns-then-place-eq0
returns-then-place-eq0 c = back-first c.requires c.if-place-eq0.true

pub overflow_sub-place : goal.overflow_sub-place
overflow_sub-place c = omega (arith, c.if-place-eq0.false)

pub returns : goal.returns
returns c = back-test c.requires c.if-place-eq0.false c.change_or.ensures
