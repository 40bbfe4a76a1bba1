-- `codes::run::read_run` meets its contract. The loop's invariant: what the sum and the buffer lead to is what the start leads to. The measure is
-- the bits left. Assumes nothing.
use Prim.Native.Nat.{◌-◌, ◌*◌}
use lib.ListN.{length}
use Rattle.tables.specs.Tables.{colour_of}
use Rattle.codes.proofs.Runs.{Going}
use Rattle.codes.proofs.run.read_run.Given as goal

abbrev pub invariant-loop-next : goal.invariant-loop-next
invariant-loop-next l = Going (colour_of l.colour) l.src l.initial.b.at l.b l.sum

abbrev pub decreases-loop-next : goal.decreases-loop-next
decreases-loop-next l = 8 * length l.src - l.b.at
