-- `writer::same_run::same_run` meets its contract. The loop's invariant: the codes of what is left come to those of the run.
-- Assumes nothing.
use Rattle.rules.specs.Write.{run_bits}
use Rattle.tables.specs.Tables.{colour_of}
use Rattle.writer.proofs.Leaving.{Left}
use Rattle.writer.proofs.same_run.same_run.Given as goal

abbrev pub invariant-loop-left : goal.invariant-loop-left
invariant-loop-left l =
    Left l.src l.next (run_bits (colour_of l.colour) l.left) l.at (run_bits (colour_of l.colour) l.run)

abbrev pub decreases-loop-left : goal.decreases-loop-left
decreases-loop-left l = l.left
