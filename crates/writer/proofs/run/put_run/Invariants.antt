-- `writer::run::put_run` meets its contract. The loop's invariant: the codes of what is left come to those of the run.
-- Assumes nothing.
use Rattle.rules.specs.Write.{run_bits}
use Rattle.tables.specs.Tables.{colour_of}
use Rattle.writer.proofs.Owing.{Owes}
use Rattle.writer.proofs.run.put_run.Given as goal

abbrev pub invariant-loop-left : goal.invariant-loop-left
invariant-loop-left l =
    Owes l.write l.next (run_bits (colour_of l.colour) l.left) l.out l.at (run_bits (colour_of l.colour) l.run) l.initial.out

abbrev pub decreases-loop-left : goal.decreases-loop-left
decreases-loop-left l = l.left
