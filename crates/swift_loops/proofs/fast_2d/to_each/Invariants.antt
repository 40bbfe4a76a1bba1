-- The invariant is `Along`, which a one takes a code further. The measure is what is left of the reference.
use Prim.Native.Nat.{◌-◌}
use mathlib.Core.List.{[]}
use Rattle.context.specs.declared.reference.Reference.TheVariants.{Kept}
use Rattle.swift_loops.proofs.StraightLoop.{Along}
use Rattle.swift_loops.proofs.fast_2d.to_each.Given as goal

abbrev pub invariant-loop-rest : goal.invariant-loop-rest
invariant-loop-rest l = Along (Kept l.start) [] l.initial.changes l.base l.width l.initial.s l.initial.rest l.changes l.s l.rest

abbrev pub decreases-loop-rest : goal.decreases-loop-rest
decreases-loop-rest l = l.base - l.start - l.s.place
