-- `codes::plain::read_run` meets its contract. The loop's invariant: what the sum leads to is what the start leads to. The measure is the bits left.
-- Assumes nothing.
use Prim.Native.Nat.{◌-◌, ◌*◌}
use lib.ListN.{length}
use Rattle.tables.specs.Tables.{colour_of}
use Rattle.codes.proofs.Comparing.{Adding}
use Rattle.codes.proofs.plain.read_run.Given as goal

abbrev pub invariant-loop-code : goal.invariant-loop-code
invariant-loop-code l = Adding (colour_of l.colour) l.src l.start l.at l.sum

abbrev pub decreases-loop-code : goal.decreases-loop-code
decreases-loop-code l = 8 * length l.src - l.at
