-- What holds of the line at each turn: pairs took it there, and it is before a pair.
use Prim.Native.Nat.{◌-◌}
use lib.ListN.{length}
use Rattle.rules.specs.Bits.{bits_of}
use Rattle.swift_loops.specs.Pairs.{Ran, Paces, pace_of}
use Rattle.swift_loops.proofs.fast_1d.pairs_from.Given as goal

abbrev pub invariant-loop-s : goal.invariant-loop-s
invariant-loop-s l = Ran (bits_of l.src) (length l.initial.row) l.width l.initial.row (pace_of l.initial.s) l.row (pace_of l.s) × Paces l.src l.row l.width l.s

abbrev pub decreases-loop-s : goal.decreases-loop-s
decreases-loop-s l = l.width - l.s.position
