-- The invariant is `Going`, and each way through a turn is a law of it. What falls is the bits left.
use Prim.Native.Nat.{◌-◌, ◌*◌}
use lib.ListN.{length}
use Rattle.one_line.proofs.RunLoop.{Going}
use Rattle.one_line.proofs.line_1d.runs.Given as goal

abbrev pub invariant-loop-rules : goal.invariant-loop-rules
invariant-loop-rules l = Going (record { bytes = l.src; xs = l.initial.changes; two = l.two; rules = l.rules; line = l.initial.line; at = l.at }) l.count l.line l.buffer l.changes

abbrev pub decreases-loop-rules : goal.decreases-loop-rules
decreases-loop-rules l = 8 * length l.src - l.buffer.at
