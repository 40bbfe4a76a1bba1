use Rattle.swift_units.specs.Counted.{Spent}
use Rattle.swift_units.proofs.codes.Given as goal

abbrev pub invariant-loop-u : goal.invariant-loop-u
invariant-loop-u l = Spent l.src l.start l.initial.changes l.base l.width l.initial.u.stand l.units l.u l.changes

abbrev pub decreases-loop-u : goal.decreases-loop-u
decreases-loop-u l = l.u.left
