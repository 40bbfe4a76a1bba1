-- The invariant: codes have walked here. The measure is what is left of the data.
use Prim.Native.Nat.{◌-◌, ◌*◌}
use lib.ListN.{length}
use Rattle.context.specs.declared.reference.Reference.TheVariants.{Lent}
use Rattle.swift_loops.specs.Swift.{WalkedIn}
use Rattle.swift_loops.proofs.lent_2d.codes.Given as goal

abbrev pub invariant-loop-s : goal.invariant-loop-s
invariant-loop-s l = WalkedIn l.src Lent l.reference l.initial.row 0 l.width l.initial.s l.row l.s

abbrev pub decreases-loop-s : goal.decreases-loop-s
decreases-loop-s l = 8 * length l.src - l.s.at
