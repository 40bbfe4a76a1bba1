-- `ledger_file::onward::is_named` meets its contract. Assumes nothing.
use Rattle.ledger_file.proofs.Naming.{Naming}
use Rattle.ledger_file.proofs.onward.is_named.Given as goal

abbrev pub invariant-loop-i : goal.invariant-loop-i
invariant-loop-i l = Naming l.line l.name l.i
