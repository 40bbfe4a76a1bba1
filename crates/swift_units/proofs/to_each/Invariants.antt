use Rattle.swift_units.proofs.Counting.{EachTo}
use Prim.Native.Nat.{◌-◌}
use Rattle.swift_units.proofs.to_each.Given as goal

abbrev pub invariant-loop-rest : goal.invariant-loop-rest
invariant-loop-rest l = EachTo l.start l.initial.changes l.base l.width l.initial.s l.initial.rest l.most l.changes l.s l.rest

abbrev pub decreases-loop-rest : goal.decreases-loop-rest
decreases-loop-rest l = l.base - l.start - l.s.place
