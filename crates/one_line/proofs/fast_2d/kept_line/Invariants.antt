-- The invariant is `Standing`, and each way through a turn is a law of it. The measure is what is left of the data.
use Prim.Native.Nat.{◌-◌, ◌*◌}
use mathlib.Core.List.{[]}
use lib.ListN.{length}
use Rattle.context.specs.declared.reference.Reference.TheVariants.{Kept}
use Rattle.one_line.proofs.SwiftLine.{Standing}
use Rattle.one_line.proofs.fast_2d.kept_line.Given as goal

abbrev pub invariant-loop-rules : goal.invariant-loop-rules
invariant-loop-rules l =
    Standing l.src (Kept l.first) [] l.initial.changes l.base l.width l.start l.rules l.s l.cut l.changes

abbrev pub decreases-loop-rules : goal.decreases-loop-rules
decreases-loop-rules l = 8 * length l.src - l.s.at
