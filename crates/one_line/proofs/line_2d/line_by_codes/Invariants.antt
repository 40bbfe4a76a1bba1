-- The invariant is `Reading`, and each way through a turn is a law of it. What falls is the bits left.
use Prim.Native.Nat.{◌-◌, ◌*◌}
use lib.ListN.{length}
use Rattle.one_line.proofs.LineLoop.{Reading}
use Rattle.one_line.proofs.line_2d.line_by_codes.Given as goal

abbrev pub invariant-loop-line : goal.invariant-loop-line
invariant-loop-line l =
    Reading (record { bytes = l.src; reference = l.reference; xs = l.initial.changes; base = l.base; place = l.place; width = l.width; at = l.start; rules = l.rules }) l.line l.at l.seen l.changes

abbrev pub decreases-loop-line : goal.decreases-loop-line
decreases-loop-line l =
    8 * length l.src - l.at
