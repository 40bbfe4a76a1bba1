-- `writer::eols::put_filled` meets its contract. The loop's invariant: the zeros that are left and the EOL come to all. Assumes nothing.
use mathlib.Core.Bool.{false}
use mathlib.Core.List.{◌++◌}
use lib.ListN.{replicate}
use Rattle.rules.specs.Write.{eol_bits}
use Rattle.writer.proofs.Owing.{Owes}
use Rattle.writer.proofs.eols.put_filled.Given as goal

abbrev pub invariant-loop-left : goal.invariant-loop-left
invariant-loop-left l = Owes l.write l.next (replicate l.left false ++ eol_bits) l.out l.at (replicate l.fill false ++ eol_bits) l.initial.out

abbrev pub decreases-loop-left : goal.decreases-loop-left
decreases-loop-left l = l.left
