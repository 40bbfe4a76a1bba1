-- The invariant: codes have walked here. The measure is what is left of the data.
use Prim.Native.Nat.{◌-◌, ◌*◌}
use mathlib.Core.List.{[]}
use lib.ListN.{length}
use Rattle.context.specs.declared.reference.Reference.TheVariants.{Kept}
use Rattle.swift_loops.specs.Swift.{WalkedIn}
use Rattle.swift_loops.proofs.fast_2d.codes.Given as goal

abbrev pub invariant-loop-s : goal.invariant-loop-s
invariant-loop-s l =
    WalkedIn l.src (Kept l.start) [] l.initial.changes l.base l.width l.initial.s l.changes l.s

abbrev pub decreases-loop-s : goal.decreases-loop-s
decreases-loop-s l = 8 * length l.src - l.s.at
