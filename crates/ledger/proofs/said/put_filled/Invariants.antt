use Rattle.listing_text.proofs.Written.{Owes}
use Prim.Native.Nat.{◌≤◌}
use lib.ListN.{length, drop}
use Rattle.ledger.specs.Said.{fill}
use Rattle.ledger.proofs.said.put_filled.Given as goal

abbrev pub invariant-loop-b : goal.invariant-loop-b
invariant-loop-b l = Owes l.at (fill l.numbers l.template) l.initial.out l.p (fill l.numbers (drop l.b-index l.template)) l.out × (l.b-index ≤ length l.template)
