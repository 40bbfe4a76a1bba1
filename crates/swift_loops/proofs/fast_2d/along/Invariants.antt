-- The invariant is `Nearing`, which V0 codes and one beside b1 take further. The measure is what is left up to `stop`.
use Prim.Native.Nat.{◌-◌}
use mathlib.Core.List.{[]}
use Rattle.context.specs.declared.reference.Reference.TheVariants.{Kept}
use Rattle.swift_loops.proofs.Beside.{Nearing}
use Rattle.swift_loops.proofs.fast_2d.along.Given as goal

abbrev pub invariant-loop-s : goal.invariant-loop-s
invariant-loop-s l =
    Nearing (Kept l.start) [] l.initial.changes l.base l.width l.initial.s l.initial.rest l.stop l.changes l.s l.rest

abbrev pub decreases-loop-s : goal.decreases-loop-s
decreases-loop-s l = l.stop - l.s.at
