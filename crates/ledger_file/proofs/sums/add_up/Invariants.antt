-- `ledger_file::sums::add_up` meets its contract. Assumes nothing.
use Rattle.ledger_file.specs.Sums.{added_up}
use Rattle.ledger_file.proofs.Adding.{Going}
use lib.ListN.{length}
use Prim.Native.Nat.{◌-◌}
use Rattle.ledger_file.proofs.sums.add_up.Given as goal

abbrev pub invariant-loop-t : goal.invariant-loop-t
invariant-loop-t l = Going l.text (added_up l.text l.quota (length l.initial.starts)) l.initial.starts l.t l.starts l.at

abbrev pub decreases-loop-t : goal.decreases-loop-t
decreases-loop-t l = length l.text - l.at
