-- `ledger_file::fields::count` meets its contract. Assumes nothing.
use Rattle.ledger_file.proofs.Fielding.{Counting}
use Rattle.ledger_file.proofs.fields.count.Given as goal

abbrev pub invariant-loop-b : goal.invariant-loop-b
invariant-loop-b l = Counting l.line l.n l.b-index
