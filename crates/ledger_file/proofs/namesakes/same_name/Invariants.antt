-- `ledger_file::namesakes::same_name` meets its contract. Assumes nothing.
use Rattle.ledger_file.proofs.Names.{Matching}
use Rattle.ledger_file.proofs.namesakes.same_name.Given as goal

abbrev pub invariant-loop-i : goal.invariant-loop-i
invariant-loop-i l = Matching l.text l.s l.at l.n l.i

abbrev pub decreases-loop-i : goal.decreases-loop-i
decreases-loop-i l = l.i
