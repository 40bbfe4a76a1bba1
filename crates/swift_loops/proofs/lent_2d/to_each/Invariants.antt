-- The invariant is `Along`, which a one takes a code further. The measure is what is left of the reference.
use Prim.Native.Nat.{◌-◌}
use lib.ListN.{length}
use Rattle.context.specs.declared.reference.Reference.TheVariants.{Lent}
use Rattle.swift_loops.proofs.StraightLoop.{Along}
use Rattle.swift_loops.proofs.lent_2d.to_each.Given as goal

abbrev pub invariant-loop-rest : goal.invariant-loop-rest
invariant-loop-rest l = Along Lent l.reference l.initial.row 0 l.width l.initial.s l.initial.rest l.row l.s l.rest

abbrev pub decreases-loop-rest : goal.decreases-loop-rest
decreases-loop-rest l = length l.reference - l.s.place
