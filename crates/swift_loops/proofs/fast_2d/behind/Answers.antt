-- The change before b1, or a search behind b1.
use mathlib.Core.Bool.{Bool}
use mathlib.Core.Path.{subst}
use native.Mathlib.Omega.{arith}
use Rattle.context.specs.Places.{Back}
use Rattle.context.proofs.Placing.{turned-back, turned_on}
use Rattle.swift_loops.proofs.fast_2d.behind.Goals as goal

pub goes_back-requires : goal.goes_back-requires
goes_back-requires c = c.requires

pub overflow_sub-result : goal.overflow_sub-result
overflow_sub-result c = let b = subst (λ (b : Bool). Back c.args.reference.now c.args.place c.args.a1 b) c.if-goes_back.true c.goes_back.ensures in omega (arith, b.0)

pub returns-then-goes_back : goal.returns-then-goes_back
returns-then-goes_back c = turned-back c.requires (subst (λ (b : Bool). Back c.args.reference.now c.args.place c.args.a1 b) c.if-goes_back.true c.goes_back.ensures)

pub overflow_add-place : goal.overflow_add-place
overflow_add-place c = omega (arith, c.requires.low)

pub onward-requires : goal.onward-requires
onward-requires c = turned_on c.requires (subst (λ (b : Bool). Back c.args.reference.now c.args.place c.args.a1 b) c.if-goes_back.false c.goes_back.ensures)

pub returns : goal.returns
returns c = c.onward.ensures
