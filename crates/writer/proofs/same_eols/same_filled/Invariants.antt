-- `writer::same_eols::same_filled` meets its contract. The loop's invariant: the zeros that are left and the EOL come to all. Assumes nothing.
use mathlib.Core.Bool.{false}
use mathlib.Core.List.{◌++◌}
use lib.ListN.{replicate}
use Rattle.rules.specs.Write.{eol_bits}
use Rattle.writer.proofs.Leaving.{Left}
use Rattle.writer.proofs.same_eols.same_filled.Given as goal

abbrev pub invariant-loop-left : goal.invariant-loop-left
invariant-loop-left l = Left l.src l.next (replicate l.left false ++ eol_bits) l.at (replicate l.fill false ++ eol_bits)

abbrev pub decreases-loop-left : goal.decreases-loop-left
decreases-loop-left l = l.left
