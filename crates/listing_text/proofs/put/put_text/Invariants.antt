-- `listing_text::put::put_text` meets its contract. The invariant: the bytes from `i` on are left. Assumes nothing.
use Prim.Native.Nat.{◌≤◌}
use lib.ListN.{length, drop}
use Rattle.listing_text.proofs.Written.{Owes}
use Rattle.listing_text.proofs.put.put_text.Given as goal

abbrev pub invariant-loop-b : goal.invariant-loop-b
invariant-loop-b l = Owes l.at l.text l.initial.out l.p (drop l.b-index l.text) l.out × (l.b-index ≤ length l.text)
