-- The invariant is `Standing`, as of a line under the row before it. The measure is what is left of the data.
use Prim.Native.Nat.{◌-◌, ◌*◌}
use lib.ListN.{length}
use Rattle.context.specs.declared.reference.Reference.TheVariants.{Lent}
use Rattle.one_line.proofs.SwiftLine.{Standing}
use Rattle.one_line.proofs.lent_2d.lent_line.Given as goal

abbrev pub invariant-loop-rules : goal.invariant-loop-rules
invariant-loop-rules l =
    Standing l.src Lent l.reference l.initial.changes l.base l.width l.start l.rules l.s l.cut l.changes

abbrev pub decreases-loop-rules : goal.decreases-loop-rules
decreases-loop-rules l = 8 * length l.src - l.s.at
