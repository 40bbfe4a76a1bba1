-- The invariant is `Nearing`, which V0 codes and one beside b1 take further. The measure is what is left up to `stop`.
use Prim.Native.Nat.{◌-◌}
use Rattle.context.specs.declared.reference.Reference.TheVariants.{Lent}
use Rattle.swift_loops.proofs.Beside.{Nearing}
use Rattle.swift_loops.proofs.lent_2d.along.Given as goal

abbrev pub invariant-loop-s : goal.invariant-loop-s
invariant-loop-s l = Nearing Lent l.reference l.initial.row 0 l.width l.initial.s l.initial.rest l.stop l.row l.s l.rest

abbrev pub decreases-loop-s : goal.decreases-loop-s
decreases-loop-s l = l.stop - l.s.at
