-- `form_file::said::values_in` meets its contract. The invariant: the numbers of the words that were passed are told. Assumes nothing.
use Prim.Native.Nat.{◌-◌}
use lib.ListN.{length, drop}
use Rattle.form_file.specs.Words.{values_of}
use Rattle.form_file.specs.Steps.{words_in}
use Rattle.form_file.proofs.Numbering.{Told}
use Rattle.form_file.proofs.said.values_in.Given as goal

abbrev pub invariant-loop-at : goal.invariant-loop-at
invariant-loop-at l = Told l.line (values_of (words_in (drop l.from l.line))) l.n l.count l.held l.at

abbrev pub decreases-loop-at : goal.decreases-loop-at
decreases-loop-at l = length l.line - l.at
