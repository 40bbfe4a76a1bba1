-- `ledger::said::put_name` meets its contract. The invariant: the bytes of the name from `i` on are left. Assumes nothing.
use Prim.Native.Nat.{◌≤◌}
use lib.ListN.{length, drop}
use Rattle.listing_text.proofs.Written.{Owes}
use Rattle.ledger.specs.Said.{shown}
use Rattle.ledger.proofs.said.put_name.Given as goal

abbrev pub invariant-loop-b : goal.invariant-loop-b
invariant-loop-b l = Owes l.at (shown l.name) l.initial.out l.p (shown (drop l.b-index l.name)) l.out × (l.b-index ≤ length l.name)
