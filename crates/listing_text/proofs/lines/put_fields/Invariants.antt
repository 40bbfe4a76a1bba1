-- `listing_text::lines::put_fields` meets its contract. The invariant: the numbers from `i` on are left. Assumes nothing.
use Prim.Native.Nat.{◌≤◌}
use lib.ListN.{length, drop}
use Rattle.listing_text.proofs.Written.{Owes}
use Rattle.listing_text.specs.Sheet.{tabbed}
use Rattle.listing_text.proofs.lines.put_fields.Given as goal

abbrev pub invariant-loop-number : goal.invariant-loop-number
invariant-loop-number l = Owes l.at (tabbed l.numbers) l.initial.out l.p (tabbed (drop l.number-index l.numbers)) l.out × (l.number-index ≤ length l.numbers)
